-- The laws for whole data lists: each has the number of its own transaction, and no replaced data
-- wait for their cleanup.
use Rattle.std.proofs.Common.{◌≡◌, ℕ, ◌<◌, false, eqb, arith, List, [], ◌∷◌, ◌++◌, map, reverse, refl, sym, ap, subst, ◌∙◌}
use Rattle.std.proofs.lemmas.List.{append-nil}
use Rattle.data_cleanup.specs.Datum.{PlainDatum}
use Rattle.data_cleanup.specs.DataList.{PlainDataList}
use Rattle.data_cleanup.specs.Ledger.{PlainLedger, AreNumbered}
use Rattle.data_cleanup.specs.Cleanup.{Notes, AwaitCleanup, ledger_after}
use Rattle.data_cleanup.specs.Grows.{Grows, with_births}
use Rattle.data_cleanup.specs.Due.{Event, birth, ends}
use Rattle.data_cleanup.specs.Modelled.{Lists, ModelsEvents, clean_list}
use Rattle.data_cleanup.specs.Kept.{AreHeld}
use Rattle.data_cleanup.specs.Moves.{Moves}
use Rattle.data_cleanup.proofs.Lists.{StandLive, HeldLive, grows_live}
use Rattle.data_cleanup.proofs.DataNameFacts.{by_test}
use Rattle.data_cleanup.proofs.DataCountFacts.{same_below}
use Rattle.data_cleanup.proofs.EventModelFacts.{stand_at_first, stand_on_growth, stand_on_end}
use Rattle.data_cleanup.proofs.Held.{held_at_first, held_on_growth, held_on_end, held_ready}

abbrev live_of : Lists → ℕ → List PlainDatum
live_of lists handle = (lists handle).live

live_stand : (note : Notes) (limit : ℕ) (ledger : PlainLedger) (lists : Lists) (events : List Event) → ModelsEvents note limit ledger lists events
    → StandLive note limit ledger (live_of lists) events
live_stand note limit ledger lists events s = record {
  births = s.births;
  receipts = s.receipts;
  tidy = s.tidy;
  lists_are = λ h. ap (λ (l : PlainDataList). l.live) (s.lists_are h);
  once = s.once;
}

-- a list whose data are known, and which is clean
whole : (h : ℕ) (l : PlainDataList) (live : List PlainDatum) → l ≡ clean_list h l.live → l.live ≡ live → l ≡ clean_list h live
whole h l live clean e = clean ∙ ap (clean_list h) e

whole_stand : (note : Notes) (limit : ℕ) (ledger : PlainLedger) (lists : Lists) (events : List Event)
    → ((h : ℕ) → lists h ≡ clean_list h (lists h).live) → StandLive note limit ledger (live_of lists) events → ModelsEvents note limit ledger lists events
whole_stand note limit ledger lists events clean s = record {
  births = s.births;
  receipts = s.receipts;
  tidy = s.tidy;
  lists_are = λ h. whole h (lists h) _ (clean h) (s.lists_are h);
  once = s.once;
}

-- lists that model events have no data that wait for their cleanup
stand_clean : (note : Notes) (limit : ℕ) (ledger : PlainLedger) (lists : Lists) (events : List Event) → ModelsEvents note limit ledger lists events
    → (h : ℕ) → lists h ≡ clean_list h (lists h).live
stand_clean note limit ledger lists events s h = s.lists_are h ∙ ap (clean_list h) (sym (ap (λ (l : PlainDataList). l.live) (s.lists_are h)))

handle_of_clean : (h : ℕ) (l : PlainDataList) → l ≡ clean_list h l.live → l.handle ≡ h
handle_of_clean h l e = ap (λ (x : PlainDataList). x.handle) e

-- one list changes, and is clean again
clean_next : (handle : ℕ) (lists next : Lists) → ((h : ℕ) → lists h ≡ clean_list h (lists h).live)
    → next handle ≡ clean_list handle (next handle).live → ((h : ℕ) → eqb h handle ≡ false → next h ≡ lists h)
    → (h : ℕ) → next h ≡ clean_list h (next h).live
clean_next handle lists next clean own same h = by_test (eqb h handle)
    (λ e. let here : h ≡ handle = grind arith in subst (λ k. next k ≡ clean_list k (next k).live) (sym here) own)
    (λ e. same h e ∙ clean h ∙ ap (λ (l : PlainDataList). clean_list h l.live) (sym (same h e)))

grown_clean : (note : Notes) (modules handle : ℕ) (old new : PlainDataList) (before after : PlainLedger) → old.handle ≡ handle
    → Grows note modules old before new after → new ≡ clean_list handle new.live
grown_clean note modules handle old new before after own g =
    let is : new ≡ clean_list handle (with_births old.live g.added) = g.list ∙ ap (λ n. clean_list n (with_births old.live g.added)) own in
    is ∙ ap (clean_list handle) (sym (ap (λ (l : PlainDataList). l.live) is))

same_live : (handle : ℕ) (lists next : Lists) → ((h : ℕ) → eqb h handle ≡ false → next h ≡ lists h) → (h : ℕ) → eqb h handle ≡ false
    → live_of next h ≡ live_of lists h
same_live handle lists next same h e = ap (λ (l : PlainDataList). l.live) (same h e)

abbrev pub no_lists : Lists
no_lists h = clean_list h []

pub stands_at_first : (note : Notes) (limit : ℕ) → ModelsEvents note limit (record { births = []; filed = [] }) (λ (h : ℕ). clean_list h []) []
stands_at_first note limit = whole_stand note limit _ no_lists [] (λ h. refl) (stand_at_first note limit)

pub stands_on_growth : (note : Notes) (modules limit handle : ℕ) (events : List Event) (before after : PlainLedger) (lists next : Lists)
    → ModelsEvents note limit before lists events → handle < limit
    → (g : Grows note modules (lists handle) before (next handle) after) → ((h : ℕ) → eqb h handle ≡ false → next h ≡ lists h)
    → AreNumbered 0 after.births
    → ModelsEvents note limit after next (events ++ map birth g.added)
stands_on_growth note modules limit handle events before after lists next s lt g same numbered =
    let clean = stand_clean note limit before lists events s in
    let own = handle_of_clean handle (lists handle) (clean handle) in
    whole_stand note limit after next (events ++ map birth g.added)
    (clean_next handle lists next clean (grown_clean note modules handle (lists handle) (next handle) before after own g) same)
    (stand_on_growth note modules limit handle events before after (live_of lists) (live_of next) (live_stand note limit before lists events s) lt
    (grows_live note modules handle (lists handle) (next handle) before after own g) (same_live handle lists next same) numbered)

pub stands_on_end : (note : Notes) (limit handle status : ℕ) (events : List Event) (before after : PlainLedger) (lists next : Lists)
    → ModelsEvents note limit before lists events → handle < limit
    → after ≡ ledger_after note status (reverse (lists handle).live) before → next handle ≡ clean_list handle [] → ((h : ℕ) → eqb h handle ≡ false → next h ≡ lists h)
    → ModelsEvents note limit after next (events ++ ends handle status ∷ [])
stands_on_end note limit handle status events before after lists next s lt filed none same =
    let clean = stand_clean note limit before lists events s in
    let empty : (next handle).live ≡ [] = ap (λ (l : PlainDataList). l.live) none in
    whole_stand note limit after next (events ++ ends handle status ∷ [])
    (clean_next handle lists next clean (none ∙ ap (clean_list handle) (sym empty)) same)
    (stand_on_end note limit handle status events before after (live_of lists) (live_of next) (live_stand note limit before lists events s) lt filed empty (same_live handle lists next same))

-- ---- what each call does

pub moves_on_growth : (note : Notes) (modules limit handle : ℕ) (before after : PlainLedger) (lists next : Lists)
    → handle < limit → Grows note modules (lists handle) before (next handle) after → ((h : ℕ) → eqb h handle ≡ false → next h ≡ lists h)
    → AreNumbered 0 after.births → Moves note limit [] before lists after next
moves_on_growth note modules limit handle before after lists next lt g same numbered = record {
  added = g.added;
  births = g.births;
  stand = λ events s. subst (λ (l : List Event). ModelsEvents note limit after next (events ++ l)) (sym (append-nil (map birth g.added)))
      (stands_on_growth note modules limit handle events before after lists next s lt g same numbered);
}

pub moves_on_end : (note : Notes) (limit handle status : ℕ) (before after : PlainLedger) (lists next : Lists)
    → handle < limit → after ≡ ledger_after note status (reverse (lists handle).live) before → next handle ≡ clean_list handle [] → ((h : ℕ) → eqb h handle ≡ false → next h ≡ lists h)
    → Moves note limit (ends handle status ∷ []) before lists after next
moves_on_end note limit handle status before after lists next lt is none same = record {
  added = [];
  births = ap (λ (l : PlainLedger). l.births) is ∙ sym (append-nil before.births);
  stand = λ events s. stands_on_end note limit handle status events before after lists next s lt is none same;
}

stands_still : (note : Notes) (limit : ℕ) (events : List Event) (ledger : PlainLedger) (lists next : Lists) → ((h : ℕ) → next h ≡ lists h)
    → ModelsEvents note limit ledger lists events → ModelsEvents note limit ledger next events
stands_still note limit events ledger lists next same s = record {
  births = s.births;
  receipts = s.receipts;
  tidy = s.tidy;
  lists_are = λ h. same h ∙ s.lists_are h;
  once = λ id. rw (same_below limit id 0 (live_of lists) (live_of next) (λ h lt. ap (λ (l : PlainDataList). l.live) (same h))) (s.once id);
}

pub moves_nowhere : (note : Notes) (limit : ℕ) (before after : PlainLedger) (lists next : Lists) → after ≡ before → ((h : ℕ) → next h ≡ lists h)
    → Moves note limit [] before lists after next
moves_nowhere note limit before after lists next is same = record {
  added = [];
  births = ap (λ (l : PlainLedger). l.births) is ∙ sym (append-nil before.births);
  stand = λ events s. subst (λ (l : List Event). ModelsEvents note limit after next l) (sym (append-nil events))
      (subst (λ (l : PlainLedger). ModelsEvents note limit l next events) (sym is) (stands_still note limit events before lists next same s));
}

-- ---- whatever the events were

live_held : (modules limit : ℕ) (ledger : PlainLedger) (lists : Lists) → AreHeld modules limit ledger lists → HeldLive modules limit ledger (live_of lists)
live_held modules limit ledger lists a = record { once = a.once; each = a.each }

pub holds_at_first : (modules limit : ℕ) → AreHeld modules limit (record { births = []; filed = [] }) (λ (h : ℕ). clean_list h [])
holds_at_first modules limit =
    let live = held_at_first modules limit in
    record { once = live.once; each = live.each; clean = λ h. refl }

pub holds_on_growth : (note : Notes) (modules limit handle : ℕ) (before after : PlainLedger) (lists next : Lists)
    → AreHeld modules limit before lists → handle < limit
    → Grows note modules (lists handle) before (next handle) after → ((h : ℕ) → eqb h handle ≡ false → next h ≡ lists h)
    → AreNumbered 0 after.births → AreHeld modules limit after next
holds_on_growth note modules limit handle before after lists next a lt g same numbered =
    let own = handle_of_clean handle (lists handle) (a.clean handle) in
    let live = held_on_growth note modules limit handle before after (live_of lists) (live_of next) (live_held modules limit before lists a) lt
    (grows_live note modules handle (lists handle) (next handle) before after own g) (same_live handle lists next same) numbered in
    record { once = live.once; each = live.each; clean = clean_next handle lists next a.clean (grown_clean note modules handle (lists handle) (next handle) before after own g) same }

pub holds_on_end : (note : Notes) (modules limit handle status : ℕ) (before after : PlainLedger) (lists next : Lists)
    → AreHeld modules limit before lists → handle < limit
    → after ≡ ledger_after note status (reverse (lists handle).live) before → next handle ≡ clean_list handle [] → ((h : ℕ) → eqb h handle ≡ false → next h ≡ lists h)
    → AreHeld modules limit after next
holds_on_end note modules limit handle status before after lists next a lt is none same =
    let empty : (next handle).live ≡ [] = ap (λ (l : PlainDataList). l.live) none in
    let live = held_on_end note modules limit handle status before after (live_of lists) (live_of next) (live_held modules limit before lists a) lt is empty (same_live handle lists next same) in
    record { once = live.once; each = live.each; clean = clean_next handle lists next a.clean (none ∙ ap (clean_list handle) (sym empty)) same }

pub holds_ready : (modules limit handle : ℕ) (ledger : PlainLedger) (lists : Lists) → AreHeld modules limit ledger lists → handle < limit
    → AwaitCleanup modules ledger (lists handle).live
holds_ready modules limit handle ledger lists a lt = held_ready modules limit handle ledger (live_of lists) (live_held modules limit ledger lists a) lt
