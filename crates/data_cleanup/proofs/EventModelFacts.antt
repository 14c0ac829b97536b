-- Lists and a log that model some events model more events after a call.
use Rattle.std.proofs.Common.{◌≡◌, ℕ, ◌+◌, ◌<◌, ◌≤◌, false, eqb, arith, List, [], ◌∷◌, ◌++◌, length, map, reverse, refl, sym, ap, subst, ◌∙◌}
use Rattle.std.specs.List.{AllByRecursion, IsDistinct}
use Rattle.std.proofs.lemmas.List.{reverse-append, reverse-reverse, map-append}
use Rattle.data_cleanup.specs.Datum.{PlainDatum}
use Rattle.data_cleanup.specs.Ledger.{AreNumbered, PlainLedger}
use Rattle.data_cleanup.specs.Cleanup.{Notes, data_replace, ledger_after, receipts_for}
use Rattle.data_cleanup.specs.Grows.{IsOf, replacements, with_births}
use Rattle.data_cleanup.specs.Due.{Event, birth, due, ends, since_end}
use Rattle.data_cleanup.specs.declared.datum.Birth.{Birth}
use Rattle.data_cleanup.specs.declared.receipt.Filed.{Filed}
use Rattle.data_cleanup.specs.Latest.{IsLatest}
use Rattle.data_cleanup.specs.Holding.{births_since, data_held, receipts, replaced_data}
use Rattle.data_cleanup.specs.Modelled.{receipts_in, times_filed, times_held}
use Rattle.data_cleanup.proofs.Lists.{GrowsLive, StandLive}
use Rattle.data_cleanup.proofs.DataNameFacts.{by_test}
use Rattle.data_cleanup.proofs.NewestFirstFacts.{reverse_front, since_own, since_ended, with_births-append, law_births, law_end}
use Rattle.data_cleanup.proofs.Every.{every, every-append, every-reverse}
use Rattle.data_cleanup.proofs.DataCountFacts.{numbered-back, none_held}
use Rattle.data_cleanup.proofs.LatestDataFacts.{held_latest, births_of-births, births_of-end}
use Rattle.data_cleanup.proofs.OnceMore.{nothing_below, once_growth, once_end}
use Rattle.data_cleanup.proofs.FiledOnce.{distinct, at_most_one, replaced_later, swept_low, swept_within}
use Rattle.data_cleanup.proofs.RecordOrderFacts.{numbered_late, all_tidy_more, growth_tidy, end_tidy, swept_receipts, tidied_receipts}

abbrev Of : ℕ → List Birth → Type 0
Of handle bs = AllByRecursion (λ (b : Birth). b.handle ≡ handle) bs

-- data that a transaction sets are added to its own list
since_births : (handle : ℕ) (past : List Event) (bs : List Birth) → Of handle bs
    → since_end handle (reverse (map birth bs) ++ past) ≡ reverse bs ++ since_end handle past
since_births handle past [] all = refl
since_births handle past (b ∷ bs) all =
    ap (since_end handle) (reverse_front (birth b) (map birth bs) past)
    ∙ since_births handle (birth b ∷ past) bs all.1
    ∙ ap (λ (l : List Birth). reverse bs ++ l) (since_own handle b past all.0)
    ∙ sym (reverse_front b bs (since_end handle past))

pub births_since-births : (handle : ℕ) (events : List Event) (bs : List Birth) → Of handle bs
    → births_since handle (events ++ map birth bs) ≡ births_since handle events ++ bs
births_since-births handle events bs all =
    ap (λ (l : List Event). reverse (since_end handle l)) (reverse-append events (map birth bs))
    ∙ ap reverse (since_births handle (reverse events) bs all)
    ∙ reverse-append (reverse bs) (since_end handle (reverse events))
    ∙ ap (λ (l : List Birth). births_since handle events ++ l) (reverse-reverse bs)

pub data_held-births : (handle : ℕ) (events : List Event) (bs : List Birth) → Of handle bs
    → data_held handle (events ++ map birth bs) ≡ with_births (data_held handle events) bs
data_held-births handle events bs all = ap (with_births []) (births_since-births handle events bs all) ∙ with_births-append [] (births_since handle events) bs

-- and to no other list
since_other : (handle other : ℕ) (past : List Event) (bs : List Birth) → eqb other handle ≡ false → Of handle bs
    → since_end other (reverse (map birth bs) ++ past) ≡ since_end other past
since_other handle other past [] e all = refl
since_other handle other past (b ∷ bs) e all =
    let away : eqb b.handle other ≡ false = rw all.0 (grind arith) in
    ap (since_end other) (reverse_front (birth b) (map birth bs) past)
    ∙ since_other handle other (birth b ∷ past) bs e all.1
    ∙ rw away refl

pub data_held-other : (handle other : ℕ) (events : List Event) (bs : List Birth) → eqb other handle ≡ false → Of handle bs
    → data_held other (events ++ map birth bs) ≡ data_held other events
data_held-other handle other events bs e all =
    ap (λ (l : List Event). with_births [] (reverse (since_end other l))) (reverse-append events (map birth bs))
    ∙ ap (λ (l : List Birth). with_births [] (reverse l)) (since_other handle other (reverse events) bs e all)

pub data_held-ended : (handle status : ℕ) (events : List Event) → data_held handle (events ++ ends handle status ∷ []) ≡ []
data_held-ended handle status events =
    ap (λ (l : List Event). with_births [] (reverse (since_end handle l))) (reverse-append events (ends handle status ∷ []))
    ∙ ap (λ (l : List Birth). with_births [] (reverse l)) (since_ended handle status (reverse events))

pub data_held-other_ended : (handle status other : ℕ) (events : List Event) → eqb other handle ≡ false
    → data_held other (events ++ ends handle status ∷ []) ≡ data_held other events
data_held-other_ended handle status other events e =
    let away : eqb handle other ≡ false = grind arith in
    ap (λ (l : List Event). with_births [] (reverse (since_end other l))) (reverse-append events (ends handle status ∷ []))
    ∙ rw away refl

-- an empty log and empty lists model an empty list of events
pub stand_at_first : (note : Notes) (limit : ℕ) → StandLive note limit (record { births = []; filed = [] }) (λ (h : ℕ). []) []
unfolding IsDistinct
stand_at_first note limit = record {
  births = refl;
  receipts = refl;
  tidy = record { numbered = tt; once = tt; each = tt };
  lists_are = λ h. refl;
  once = λ id. nothing_below id _ (omega (arith, none_held limit id));
}

pub stand_on_growth : (note : Notes) (modules limit handle : ℕ) (events : List Event) (before after : PlainLedger) (lists next : ℕ → List PlainDatum)
    → StandLive note limit before lists events → handle < limit
    → (g : GrowsLive note modules handle (lists handle) before (next handle) after) → ((h : ℕ) → eqb h handle ≡ false → next h ≡ lists h)
    → AreNumbered 0 after.births
    → StandLive note limit after next (events ++ map birth g.added)
stand_on_growth note modules limit handle events before after lists next s lt g same numbered =
    let own : Of handle g.added = every (IsOf modules handle) (λ (b : Birth). b.handle ≡ handle) (λ b is. is.handle_is) g.added g.each in
    let list : lists handle ≡ data_held handle events = s.lists_are handle in
    let now : due note (events ++ map birth g.added) ≡ due note events ++ receipts note data_replace (replaced_data (lists handle) g.added) =
    rw list (law_births note events handle g.added own) in
    let swept = swept_receipts note (length after.births) (replacements (lists handle) g.added) g.receipts g.swept in
    let grown : AreNumbered 0 (before.births ++ g.added) = rw g.births at numbered in
    let fresh : AreNumbered (length before.births) g.added = (let e : 0 + length before.births ≡ length before.births = omega arith in subst (λ (n : ℕ). AreNumbered n g.added) e (numbered-back 0 before.births g.added grown)) in
    let late = numbered_late (length before.births) g.added fresh in
    let latest : AllByRecursion (IsLatest handle before.births) (lists handle) =
    rw (list, s.births) (held_latest handle events (rw s.births at s.tidy.numbered)) in
    let older : AllByRecursion (λ (d : PlainDatum). d.id < length before.births) (lists handle) = every (IsLatest handle before.births) (λ (d : PlainDatum). d.id < length before.births) (λ d l. l.below) (lists handle) latest in
    let low = swept_low note (length after.births) (replacements (lists handle) g.added) g.receipts g.swept (replaced_later (length before.births) (lists handle) g.added fresh older) in
    let within : AllByRecursion (λ (f : Filed). f.mark ≤ length (before.births ++ g.added)) g.receipts = rw (← g.births) (swept_within note (length after.births) (replacements (lists handle) g.added) g.receipts g.swept) in
    let filed : receipts_in after.filed ≡ due note (events ++ map birth g.added) = ap receipts_in g.filed ∙ map-append _ before.filed g.receipts ∙ rw (s.receipts, swept) (sym now) in
    let count = once_growth note modules limit handle before after lists next s.once lt g same numbered in
    record {
      births = g.births ∙ ap (λ (l : List Birth). l ++ g.added) s.births ∙ sym (births_of-births events g.added);
      receipts = filed;
      tidy = record {
        numbered = numbered;
        once = distinct after.filed (λ id. at_most_one id (length after.births) (times_filed id (receipts_in after.filed)) (times_held limit id next) (count id));
        each = rw (g.filed, g.births) (every-append _ before.filed g.receipts
            (all_tidy_more note before.births g.added before.filed late s.tidy.each)
            (growth_tidy note handle (length after.births) before.births g.added (lists handle) g.receipts grown late latest g.swept low within));
      };
      lists_are = λ h. by_test (eqb h handle)
          (λ e. let here : h ≡ handle = grind arith in rw here (g.live ∙ ap (λ (l : List PlainDatum). with_births l g.added) list ∙ sym (data_held-births handle events g.added own)))
          (λ e. same h e ∙ s.lists_are h ∙ sym (data_held-other handle h events g.added e own));
      once = count;
    }

pub stand_on_end : (note : Notes) (limit handle status : ℕ) (events : List Event) (before after : PlainLedger) (lists next : ℕ → List PlainDatum)
    → StandLive note limit before lists events → handle < limit
    → after ≡ ledger_after note status (reverse (lists handle)) before → next handle ≡ [] → ((h : ℕ) → eqb h handle ≡ false → next h ≡ lists h)
    → StandLive note limit after next (events ++ ends handle status ∷ [])
stand_on_end note limit handle status events before after lists next s lt filed none same =
    let list : lists handle ≡ data_held handle events = s.lists_are handle in
    let now : due note (events ++ ends handle status ∷ []) ≡ due note events ++ receipts note status (reverse (lists handle)) =
    rw list (law_end note events handle status) in
    let births : after.births ≡ before.births = ap (λ (l : PlainLedger). l.births) filed in
    let file : after.filed ≡ before.filed ++ receipts_for note status (length before.births) (reverse (lists handle)) = ap (λ (l : PlainLedger). l.filed) filed in
    let latest : AllByRecursion (IsLatest handle before.births) (lists handle) =
    rw (list, s.births) (held_latest handle events (rw s.births at s.tidy.numbered)) in
    let filed_are : receipts_in after.filed ≡ due note (events ++ ends handle status ∷ []) = ap receipts_in file ∙ map-append _ before.filed (receipts_for note status (length before.births) (reverse (lists handle)))
    ∙ rw (s.receipts, tidied_receipts note status (length before.births) (reverse (lists handle))) (sym now) in
    let count = once_end note limit handle status before after lists next s.once lt filed none same in
    record {
      births = births ∙ s.births ∙ sym (births_of-end events handle status);
      receipts = filed_are;
      tidy = record {
        numbered = rw births s.tidy.numbered;
        once = distinct after.filed (λ id. at_most_one id (length after.births) (times_filed id (receipts_in after.filed)) (times_held limit id next) (count id));
        each = rw (file, births) (every-append _ before.filed (receipts_for note status (length before.births) (reverse (lists handle)))
            s.tidy.each
            (end_tidy note handle status before.births (reverse (lists handle)) (every-reverse _ (lists handle) latest)));
      };
      lists_are = λ h. by_test (eqb h handle)
          (λ e. let here : h ≡ handle = grind arith in rw here (none ∙ sym (data_held-ended handle status events)))
          (λ e. same h e ∙ s.lists_are h ∙ sym (data_held-other_ended handle status h events e));
      once = count;
    }
