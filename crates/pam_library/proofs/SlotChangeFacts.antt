-- What a call does in one slot, and what that means for all slots and the cleanup log.
use Rattle.std.proofs.Common.{◌≡◌, ℕ, zero, suc, ◌<◌, Bool, true, false, nat_eq, List, [], ◌∷◌, ◌++◌, length, map, reverse, Option, Some, None, slice_get, refl, sym, ap, ◌∙◌, subst, arith}
use Rattle.std.proofs.lemmas.Bool.Decides.{nat_tests}
use Rattle.std.specs.List.{AllByRecursion}
use Rattle.pam_base.specs.declared.call.AppCall.{AppCall}
use Rattle.pam_base.specs.declared.call.AppCall.TheVariants as calls
use Rattle.conv_port.specs.Conv.{ConvState}
use Rattle.data_cleanup.specs.DataList.{PlainDataList}
use Rattle.data_cleanup.specs.Ledger.{AreNumbered, PlainLedger}
use Rattle.data_cleanup.specs.Cleanup.{Notes, ledger_after}
use Rattle.data_cleanup.specs.Grows.{Grows, IsOf}
use Rattle.data_cleanup.specs.Due.{birth, ends}
use Rattle.data_cleanup.specs.declared.datum.Birth.{Birth}
use Rattle.data_cleanup.specs.Modelled.{Lists, ModelsEvents, clean_list}
use Rattle.data_cleanup.specs.Kept.{AreHeld}
use Rattle.data_cleanup.specs.Moves.{Moves}
use Rattle.pam_handle.specs.Handle.{PlainHandle}
use Rattle.pam_library.specs.Slots.{PlainSlot, closed, opened, slot_at, with_slot, data_in, lists_of}
use Rattle.pam_library.specs.Sound.{ArePlaced, IsAtPlace, IsSound}
use Rattle.pam_library.specs.AnyWorld.{IsEndOf, IsUntouched, SpendsAs, SpendsAt, end_of_call, end_at}
use Rattle.pam_library.proofs.SlotNumberFacts.{slot_at-with_slot_same, slot_at-with_slot_other, slot_at-within, length-with_slot, lists-other, lists-same}

-- ---- the laws that are used

abbrev pub GrowthHolds : Type 0
GrowthHolds = (note : Notes) (modules limit handle : ℕ) (before after : PlainLedger) (lists next : Lists) →
    AreHeld modules limit before lists → handle < limit → Grows note modules (lists handle) before (next handle) after →
    ((h : ℕ) → nat_eq h handle ≡ false → next h ≡ lists h) → AreNumbered 0 after.births → AreHeld modules limit after next

abbrev pub EndHolds : Type 0
EndHolds = (note : Notes) (modules limit handle status : ℕ) (before after : PlainLedger) (lists next : Lists) →
    AreHeld modules limit before lists → handle < limit → after ≡ ledger_after note status (reverse (lists handle).live) before →
    next handle ≡ clean_list handle [] → ((h : ℕ) → nat_eq h handle ≡ false → next h ≡ lists h) → AreHeld modules limit after next

abbrev pub GrowthMoves : Type 0
GrowthMoves = (note : Notes) (modules limit handle : ℕ) (before after : PlainLedger) (lists next : Lists) →
    handle < limit → Grows note modules (lists handle) before (next handle) after →
    ((h : ℕ) → nat_eq h handle ≡ false → next h ≡ lists h) → AreNumbered 0 after.births → Moves note limit [] before lists after next

abbrev pub EndMoves : Type 0
EndMoves = (note : Notes) (limit handle status : ℕ) (before after : PlainLedger) (lists next : Lists) →
    handle < limit → after ≡ ledger_after note status (reverse (lists handle).live) before → next handle ≡ clean_list handle [] →
    ((h : ℕ) → nat_eq h handle ≡ false → next h ≡ lists h) → Moves note limit (ends handle status ∷ []) before lists after next

abbrev pub NothingGrows : Type 0
NothingGrows = (note : Notes) (modules : ℕ) (list : PlainDataList) (ledger : PlainLedger) → list.gone ≡ [] → Grows note modules list ledger list ledger

abbrev pub NothingMoves : Type 0
NothingMoves = (note : Notes) (limit : ℕ) (before after : PlainLedger) (lists next : Lists) →
    after ≡ before → ((h : ℕ) → next h ≡ lists h) → Moves note limit [] before lists after next

-- ---- sets have owners

owned_of : (added : List Birth) (modules handle : ℕ) → AllByRecursion (IsOf modules handle) added → AllByRecursion (λ (b : Birth). b.owner < modules) added
owned_of [] modules handle each = tt
owned_of (b ∷ added) modules handle each = (each.0.owner_is, owned_of added modules handle each.1)

owned-append : (births added : List Birth) (modules handle : ℕ) → AllByRecursion (λ (b : Birth). b.owner < modules) births
    → AllByRecursion (IsOf modules handle) added → AllByRecursion (λ (b : Birth). b.owner < modules) (births ++ added)
owned-append (b ∷ births) added modules handle owned each = (owned.0, owned-append births added modules handle owned.1 each)
owned-append [] added modules handle owned each = owned_of added modules handle each

-- ---- another content in the slot of a number

-- what is known after something was done in one slot
pub record IsDone (names : List (List ℕ)) (modules : ℕ) (slots : List PlainSlot) (number : ℕ) (old new : PlainSlot) (before after : PlainLedger) : Type 0 where
  pub sound : IsSound names modules slots before
  pub there : slot_at slots number ≡ Some old
  pub placed : IsAtPlace names number new
  pub numbered : AreNumbered 0 after.births

module _ (names : List (List ℕ)) (modules : ℕ) (slots : List PlainSlot) (number : ℕ) (old new : PlainSlot) (before after : PlainLedger) (done : IsDone names modules slots number old new before after) where
  below : number < 17
  below = let h = slot_at-within slots number old done.there in omega (arith, h.1, done.sound.placed.sixteen)

  others : (h : ℕ) → nat_eq h number ≡ false → lists_of (with_slot slots number new) h ≡ lists_of slots h
  others h e = lists-other slots number new h (λ (same : h ≡ number). grind (arith, nat_tests))

  list_before : data_in number (Some old) ≡ lists_of slots number
  list_before = ap (data_in number) (sym done.there)

  list_after : data_in number (Some new) ≡ lists_of (with_slot slots number new) number
  list_after = sym (lists-same slots number old new done.there)

  all_lists : data_in number (Some new) ≡ data_in number (Some old) → (h : ℕ) → lists_of (with_slot slots number new) h ≡ lists_of slots h
  all_lists same h = elim (nat_eq h number) as (λ (b : Bool). nat_eq h number ≡ b → lists_of (with_slot slots number new) h ≡ lists_of slots h) [
    | true ↦ λ e.
        let at : h ≡ number = grind (arith, nat_tests) in
        let here : lists_of (with_slot slots number new) number ≡ lists_of slots number = sym list_after ∙ same ∙ list_before in
        subst (λ (n : ℕ). lists_of (with_slot slots number new) n ≡ lists_of slots n) (sym at) here
    | false ↦ λ e. others h e
  ] refl

  grown : (note : Notes) → Grows note modules (data_in number (Some old)) before (data_in number (Some new)) after
      → Grows note modules (lists_of slots number) before (lists_of (with_slot slots number new) number) after
  grown note g =
      subst (λ (l : PlainDataList). Grows note modules (lists_of slots number) before l after) list_after
      (subst (λ (l : PlainDataList). Grows note modules l before (data_in number (Some new)) after) list_before g)

  own_number : (data_in number (Some old)).handle ≡ number
  own_number = ap (λ (l : PlainDataList). l.handle) (list_before ∙ done.sound.held.clean number)

  none_gone : (data_in number (Some old)).gone ≡ []
  none_gone = ap (λ (l : PlainDataList). l.gone) (list_before ∙ done.sound.held.clean number)

  ledger_at_end : (note : Notes) (status : ℕ) → IsEndOf note status (data_in number (Some old)) before (data_in number (Some new)) after
      → after ≡ ledger_after note status (reverse (lists_of slots number).live) before
  ledger_at_end note status end = end.ledger ∙ ap (λ (l : PlainDataList). ledger_after note status (reverse l.live) before) list_before

  list_at_end : (note : Notes) (status : ℕ) → IsEndOf note status (data_in number (Some old)) before (data_in number (Some new)) after
      → lists_of (with_slot slots number new) number ≡ clean_list number []
  list_at_end note status end = sym list_after ∙ end.list ∙ ap (λ (n : ℕ). clean_list n []) own_number

  untouched : NothingGrows → (note : Notes) → IsUntouched (data_in number (Some old)) before (data_in number (Some new)) after
      → Grows note modules (data_in number (Some old)) before (data_in number (Some new)) after
  untouched nothing note same =
      subst (λ (l : PlainDataList). Grows note modules (data_in number (Some old)) before l after) (sym same.list)
      (subst (λ (l : PlainLedger). Grows note modules (data_in number (Some old)) before (data_in number (Some old)) l) (sym same.ledger) (nothing note modules (data_in number (Some old)) before none_gone))

  -- ---- the slots

  new_at : (n : ℕ) (slot : PlainSlot) → slot_at (with_slot slots number new) n ≡ Some slot → IsAtPlace names n slot
  new_at n slot is = elim (nat_eq n number) as (λ (b : Bool). nat_eq n number ≡ b → IsAtPlace names n slot) [
    | true ↦ λ e.
        let at : n ≡ number = grind (arith, nat_tests) in
        let here : slot_at (with_slot slots number new) number ≡ Some slot = ap (slot_at (with_slot slots number new)) (sym at) ∙ is in
        let same : new ≡ slot = let f = slot_at-with_slot_same slots number old new done.there in cc in
        subst (λ (k : ℕ). IsAtPlace names k slot) (sym at) (subst (IsAtPlace names number) same done.placed)
    | false ↦ λ e. done.sound.placed.each n slot (sym (slot_at-with_slot_other slots number n new (λ (same : n ≡ number). grind (arith, nat_tests))) ∙ is)
  ] refl

  placed_after : ArePlaced names (with_slot slots number new)
  placed_after = record { sixteen = length-with_slot slots number new ∙ done.sound.placed.sixteen; each = new_at }

  -- ---- growth, and the end

  owned_more : (added : List Birth) (handle : ℕ) → AllByRecursion (IsOf modules handle) added
      → AllByRecursion (λ (b : Birth). b.owner < modules) (before.births ++ added)
  owned_more added handle each = owned-append before.births added modules handle done.sound.owned each

  module _ (note : Notes) where
    sound_of_growth : GrowthHolds → Grows note modules (data_in number (Some old)) before (data_in number (Some new)) after
        → IsSound names modules (with_slot slots number new) after
    sound_of_growth holds g = record {
      placed = placed_after;
      held = holds note modules 17 number before after (lists_of slots) (lists_of (with_slot slots number new)) done.sound.held below (grown note g) others done.numbered;
      owned = subst (AllByRecursion (λ (b : Birth). b.owner < modules)) (sym g.births) (owned_more g.added (data_in number (Some old)).handle g.each);
    }

    sound_of_end : EndHolds → (status : ℕ) → IsEndOf note status (data_in number (Some old)) before (data_in number (Some new)) after
        → IsSound names modules (with_slot slots number new) after
    sound_of_end holds status end = record {
      placed = placed_after;
      held = holds note modules 17 number status before after (lists_of slots) (lists_of (with_slot slots number new)) done.sound.held below (ledger_at_end note status end) (list_at_end note status end) others;
      owned = subst (AllByRecursion (λ (b : Birth). b.owner < modules)) (sym (ap (λ (l : PlainLedger). l.births) end.ledger)) done.sound.owned;
    }

    moves_of_growth : GrowthMoves → Grows note modules (data_in number (Some old)) before (data_in number (Some new)) after
        → Moves note 17 [] before (lists_of slots) after (lists_of (with_slot slots number new))
    moves_of_growth law g = law note modules 17 number before after (lists_of slots) (lists_of (with_slot slots number new)) below (grown note g) others done.numbered

    moves_of_end : EndMoves → (status : ℕ) → IsEndOf note status (data_in number (Some old)) before (data_in number (Some new)) after
        → Moves note 17 (ends number status ∷ []) before (lists_of slots) after (lists_of (with_slot slots number new))
    moves_of_end law status end = law note 17 number status before after (lists_of slots) (lists_of (with_slot slots number new)) below (ledger_at_end note status end) (list_at_end note status end) others

    moves_of_nothing : NothingMoves → IsUntouched (data_in number (Some old)) before (data_in number (Some new)) after
        → Moves note 17 [] before (lists_of slots) after (lists_of (with_slot slots number new))
    moves_of_nothing law same = law note 17 before after (lists_of slots) (lists_of (with_slot slots number new)) same.ledger (all_lists same.list)

-- ---- by the slot and the call

module _ (growth : GrowthHolds) (ending : EndHolds) (nothing : NothingGrows) (note : Notes) (names : List (List ℕ)) (modules : ℕ) (slots : List PlainSlot) (number : ℕ) where
  sound_of_open : (h : PlainHandle) (new : PlainSlot) (call : AppCall) (before after : PlainLedger)
      → IsDone names modules slots number (opened h) new before after
      → SpendsAs note modules call (data_in number (Some (opened h))) before (data_in number (Some new)) after → IsSound names modules (with_slot slots number new) after
  sound_of_open h new (calls.End status) before after done end = sound_of_end names modules slots number (opened h) new before after done note ending status end
  sound_of_open h new call before after done g = sound_of_growth names modules slots number (opened h) new before after done note growth g

  pub sound_of : (old new : PlainSlot) (call : AppCall) (before after : PlainLedger) → IsDone names modules slots number old new before after
      → SpendsAt note modules (Some old) call (data_in number (Some old)) before (data_in number (Some new)) after → IsSound names modules (with_slot slots number new) after
  sound_of (opened h) new call before after done spends = sound_of_open h new call before after done spends
  sound_of (closed conv) new call before after done same =
      sound_of_growth names modules slots number (closed conv) new before after done note growth (untouched names modules slots number (closed conv) new before after done nothing note same)

module _ (growth : GrowthMoves) (ending : EndMoves) (nothing : NothingMoves) (note : Notes) (names : List (List ℕ)) (modules : ℕ) (slots : List PlainSlot) (number : ℕ) where
  moves_of_open : (h : PlainHandle) (new : PlainSlot) (call : AppCall) (before after : PlainLedger)
      → IsDone names modules slots number (opened h) new before after
      → SpendsAs note modules call (data_in number (Some (opened h))) before (data_in number (Some new)) after → Moves note 17 (end_of_call number call) before (lists_of slots) after (lists_of (with_slot slots number new))
  moves_of_open h new (calls.End status) before after done end = moves_of_end names modules slots number (opened h) new before after done note ending status end
  moves_of_open h new call before after done g = moves_of_growth names modules slots number (opened h) new before after done note growth g

  pub moves_of : (old new : PlainSlot) (call : AppCall) (before after : PlainLedger) → IsDone names modules slots number old new before after
      → SpendsAt note modules (Some old) call (data_in number (Some old)) before (data_in number (Some new)) after → Moves note 17 (end_at (Some old) number call) before (lists_of slots) after (lists_of (with_slot slots number new))
  moves_of (opened h) new call before after done spends = moves_of_open h new call before after done spends
  moves_of (closed conv) new call before after done same = moves_of_nothing names modules slots number (closed conv) new before after done note nothing same

-- ---- the beginning

pub closed_at : (convs : List ConvState) (i : ℕ) (slot : PlainSlot) → slice_get (map closed convs) i ≡ Some slot → (conv : ConvState) × (slot ≡ closed conv)
closed_at [] i slot is = absurd (cc)
closed_at (conv ∷ convs) zero slot is = (conv, cc)
closed_at (conv ∷ convs) (suc i) slot is = closed_at convs i slot is

closed_slot : (convs : List ConvState) (number : ℕ) (slot : PlainSlot) → slot_at (map closed convs) number ≡ Some slot
    → (conv : ConvState) × (slot ≡ closed conv)
closed_slot convs zero slot is = absurd (cc)
closed_slot convs (suc i) slot is = closed_at convs i slot is

no_data_in : (number : ℕ) (found : Option PlainSlot) → ((slot : PlainSlot) → found ≡ Some slot → (conv : ConvState) × (slot ≡ closed conv))
    → data_in number found ≡ clean_list number []
no_data_in number None is = refl
no_data_in number (Some slot) is = let c = is slot refl in ap (λ (s : PlainSlot). data_in number (Some s)) c.1

pub no_data : (convs : List ConvState) (number : ℕ) → lists_of (map closed convs) number ≡ clean_list number []
no_data convs number = no_data_in number (slot_at (map closed convs) number) (closed_slot convs number)

abbrev empty_ledger : PlainLedger
empty_ledger = record { births = []; filed = [] }

abbrev pub no_lists : Lists
no_lists = λ (h : ℕ). clean_list h []

closed_are_placed : (names : List (List ℕ)) (convs : List ConvState) (number : ℕ) (slot : PlainSlot) → slot_at (map closed convs) number ≡ Some slot
    → IsAtPlace names number slot
closed_are_placed names convs number slot is = let c = closed_slot convs number slot is in subst (IsAtPlace names number) (sym c.1) tt

length-closed : (convs : List ConvState) → length (map closed convs) ≡ length convs
length-closed [] = refl
length-closed (conv ∷ convs) = ap suc (length-closed convs)

pub closed_are_sound : GrowthHolds → NothingGrows
    → ((modules limit : ℕ) → AreHeld modules limit (record { births = []; filed = [] }) (λ (h : ℕ). clean_list h []))
    → (names : List (List ℕ)) (modules : ℕ) (convs : List ConvState) → length convs ≡ 16 → IsSound names modules (map closed convs) (record { births = []; filed = [] })
closed_are_sound holds nothing at_first names modules convs sixteen =
    let note : Notes = λ (owner : ℕ) (payload : List ℕ) (status : ℕ). 0 in
    let next : Lists = lists_of (map closed convs) in
    let g : Grows note modules (no_lists 1) empty_ledger (next 1) empty_ledger =
    subst (λ (l : PlainDataList). Grows note modules (no_lists 1) empty_ledger l empty_ledger) (sym (no_data convs 1)) (nothing note modules (no_lists 1) empty_ledger refl) in
    record {
      placed = record { sixteen = length-closed convs ∙ sixteen; each = closed_are_placed names convs };
      held = holds note modules 17 1 empty_ledger empty_ledger no_lists next (at_first modules 17) (omega arith) g (λ h e. no_data convs h) tt;
      owned = tt;
    }

none_left : (added : List Birth) → [] ≡ [] ++ added → added ≡ []
none_left [] e = refl
none_left (b ∷ added) e = absurd (cc)

pub closed_have_no_events : NothingMoves
    → ((note : Notes) (limit : ℕ) → ModelsEvents note limit (record { births = []; filed = [] }) (λ (h : ℕ). clean_list h []) [])
    → (note : Notes) (convs : List ConvState) → ModelsEvents note 17 (record { births = []; filed = [] }) (lists_of (map closed convs)) []
closed_have_no_events nothing at_first note convs =
    let m = nothing note 17 empty_ledger empty_ledger no_lists (lists_of (map closed convs)) refl (no_data convs) in
    subst (λ (added : List Birth). ModelsEvents note 17 empty_ledger (lists_of (map closed convs)) ([] ++ (map birth added ++ []))) (none_left m.added m.births) (m.stand [] (at_first note 17))
