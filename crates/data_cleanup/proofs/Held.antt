-- The lists hold exactly what has no cleanup record.
use Rattle.std.proofs.Common.{◌≡◌, ℕ, ◌+◌, ◌<◌, ◌≤◌, false, eqb, arith, List, [], ◌∷◌, ◌++◌, length, reverse, refl, ap, ◌∙◌, length-append}
use Rattle.std.specs.List.{AllByRecursion}
use Rattle.data_cleanup.specs.Datum.{PlainDatum}
use Rattle.data_cleanup.specs.DataList.{datum_of, with_datum}
use Rattle.data_cleanup.specs.Ledger.{AreNumbered, IsOutstanding, PlainLedger}
use Rattle.data_cleanup.specs.Cleanup.{AwaitCleanup, AwaitsCleanup, Notes, ledger_after}
use Rattle.data_cleanup.specs.Grows.{IsOf, with_births}
use Rattle.data_cleanup.specs.declared.datum.Birth.{Birth}
use Rattle.data_cleanup.specs.Kept.{IsOfHandle}
use Rattle.data_cleanup.proofs.Lists.{GrowsLive, HeldLive}
use Rattle.data_cleanup.proofs.DataNameFacts.{by_test}
use Rattle.data_cleanup.proofs.Every.{every, both, every-append, every-back}
use Rattle.data_cleanup.proofs.DataCountFacts.{none_held}
use Rattle.data_cleanup.proofs.OnceMore.{nothing_below, fresh_numbers, once_growth, once_end}
use Rattle.data_cleanup.proofs.RecordOrderFacts.{numbered_late, each_placed}
use Rattle.data_cleanup.proofs.Exact.{open_lists}

-- no two records have the same id
abbrev Only : List Birth → Birth → Type 0
Only births b = AllByRecursion (λ (c : Birth). c.id ≡ b.id → c ≡ b) births

numbered_only : (n : ℕ) (births : List Birth) → AreNumbered n births → AllByRecursion (Only births) births
numbered_only n [] is = tt
numbered_only n (b ∷ bs) is =
    let late = numbered_late (n + 1) bs is.1 in (
      (λ e. refl, every (λ (c : Birth). n + 1 ≤ c.id) (λ (c : Birth). c.id ≡ b.id → c ≡ b) (λ c le e. absurd (omega (arith, le, e, is.0))) bs late),
      both (λ (c : Birth). n + 1 ≤ c.id) (Only bs) (Only (b ∷ bs)) (λ c le k. (λ e. absurd (omega (arith, le, e, is.0)), k)) bs late (numbered_only (n + 1) bs is.1),
    )

numbered_below : (n : ℕ) (births : List Birth) → AreNumbered n births → AllByRecursion (λ (b : Birth). b.id < n + length births) births
numbered_below n [] is = tt
numbered_below n (b ∷ bs) is = (omega (arith, is.0), every (λ (c : Birth). c.id < (n + 1) + length bs) (λ (c : Birth). c.id < n + length (b ∷ bs)) (λ c lt. omega (arith, lt)) bs (numbered_below (n + 1) bs is.1))

of_more : (modules handle : ℕ) (births added : List Birth) (d : PlainDatum) → AllByRecursion (λ (c : Birth). length births ≤ c.id) added
    → IsOfHandle modules handle births d → IsOfHandle modules handle (births ++ added) d
of_more modules handle births added d late o = record {
  below = omega (arith, o.below, length-append births added);
  owner = o.owner;
  is = every-append _ births added o.is (every (λ (c : Birth). length births ≤ c.id) (λ (b : Birth). b.id ≡ d.id → (datum_of b ≡ d) × (b.handle ≡ handle)) (λ c le e. absurd (omega (arith, le, e, o.below))) added late);
}

of_new : (modules handle : ℕ) (births : List Birth) (b : Birth) → Only births b → b.id < length births → IsOf modules handle b
    → IsOfHandle modules handle births (datum_of b)
of_new modules handle births b only below is = record {
  below = below;
  owner = is.owner_is;
  is = every (λ (c : Birth). c.id ≡ b.id → c ≡ b) (λ (c : Birth). c.id ≡ b.id → (datum_of c ≡ datum_of b) × (c.handle ≡ handle))
      (λ c same e. (ap datum_of (same e), ap (λ (x : Birth). x.handle) (same e) ∙ is.handle_is)) births only;
}

each_placed_all : (P : PlainDatum → Type 0) (live : List PlainDatum) (bs : List Birth) → AllByRecursion P live
    → AllByRecursion (λ (b : Birth). P (datum_of b)) bs → AllByRecursion P (with_births live bs)
each_placed_all P live [] all new = all
each_placed_all P live (b ∷ bs) all new = each_placed_all P (with_datum live (datum_of b)) bs (each_placed P live (datum_of b) all new.0) new.1

pub held_at_first : (modules limit : ℕ) → HeldLive modules limit (record { births = []; filed = [] }) (λ (h : ℕ). [])
held_at_first modules limit = record { once = λ id. nothing_below id _ (omega (arith, none_held limit id)); each = λ h. tt }

pub held_on_growth : (note : Notes) (modules limit handle : ℕ) (before after : PlainLedger) (lists next : ℕ → List PlainDatum)
    → HeldLive modules limit before lists → handle < limit
    → GrowsLive note modules handle (lists handle) before (next handle) after → ((h : ℕ) → eqb h handle ≡ false → next h ≡ lists h)
    → AreNumbered 0 after.births → HeldLive modules limit after next
held_on_growth note modules limit handle before after lists next a lt g same numbered =
    let grown : AreNumbered 0 (before.births ++ g.added) = rw g.births at numbered in
    let late = numbered_late (length before.births) g.added (fresh_numbers before.births g.added grown) in
    let more : (h : ℕ) → AllByRecursion (IsOfHandle modules h after.births) (lists h) = λ h. rw g.births
    (every (IsOfHandle modules h before.births) (IsOfHandle modules h (before.births ++ g.added)) (λ d o. of_more modules h before.births g.added d late o) (lists h) (a.each h)) in
    let only : AllByRecursion (Only after.births) g.added = rw g.births (every-back (Only (before.births ++ g.added)) before.births g.added (numbered_only 0 (before.births ++ g.added) grown)) in
    let below : AllByRecursion (λ (b : Birth). b.id < 0 + length after.births) g.added = rw g.births (every-back (λ (b : Birth). b.id < 0 + length (before.births ++ g.added)) before.births g.added (numbered_below 0 (before.births ++ g.added) grown)) in
    let new : AllByRecursion (λ (b : Birth). IsOfHandle modules handle after.births (datum_of b)) g.added =
    both (λ (b : Birth). Only after.births b × (b.id < 0 + length after.births)) (IsOf modules handle) (λ (b : Birth). IsOfHandle modules handle after.births (datum_of b))
    (λ b k is. of_new modules handle after.births b k.0 (omega (arith, k.1)) is) g.added
    (both (Only after.births) (λ (b : Birth). b.id < 0 + length after.births) (λ (b : Birth). Only after.births b × (b.id < 0 + length after.births)) (λ b o l. (o, l)) g.added only below) g.each in
    record {
      once = once_growth note modules limit handle before after lists next a.once lt g same numbered;
      each = λ h. by_test (eqb h handle)
          (λ e. let here : h ≡ handle = grind arith in rw here (rw g.live (each_placed_all (IsOfHandle modules handle after.births) (lists handle) g.added (more handle) new)))
          (λ e. rw (same h e) (more h));
    }

pub held_on_end : (note : Notes) (modules limit handle status : ℕ) (before after : PlainLedger) (lists next : ℕ → List PlainDatum)
    → HeldLive modules limit before lists → handle < limit
    → after ≡ ledger_after note status (reverse (lists handle)) before → next handle ≡ [] → ((h : ℕ) → eqb h handle ≡ false → next h ≡ lists h)
    → HeldLive modules limit after next
held_on_end note modules limit handle status before after lists next a lt is none same =
    let births : after.births ≡ before.births = ap (λ (l : PlainLedger). l.births) is in
    record {
      once = once_end note limit handle status before after lists next a.once lt is none same;
      each = λ h. by_test (eqb h handle)
          (λ e. let here : h ≡ handle = grind arith in rw (here, none) tt)
          (λ e. rw (same h e, births) (a.each h));
    }

-- what a handle holds may have cleanup records
pub held_ready : (modules limit handle : ℕ) (ledger : PlainLedger) (lists : ℕ → List PlainDatum) → HeldLive modules limit ledger lists
    → handle < limit → AwaitCleanup modules ledger (lists handle)
held_ready modules limit handle ledger lists a lt =
    let open_data = open_lists limit handle ledger lists a.once lt in
    record {
      each = both (λ (d : PlainDatum). IsOutstanding ledger d.id) (IsOfHandle modules handle ledger.births) (AwaitsCleanup modules ledger) (λ d o k. record { outstanding = o; owner = k.owner }) (lists handle) open_data.0 (a.each handle);
      once = open_data.1;
    }
