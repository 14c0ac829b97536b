-- A call of a library, in two states that are alike for a number.
use Rattle.std.proofs.Common.{◌≡◌, ℕ, Bool, true, false, nat_eq, List, [], ◌∷◌, ◌++◌, length, drop, Option, Some, None, option_map, refl, sym, ap, ◌∙◌, subst, arith}
use Rattle.std.proofs.lemmas.Bool.Decides.{nat_tests}
use Rattle.std.proofs.lemmas.List.{append-nil, append_cancel_left}
use Rattle.pam_base.specs.declared.code.Code.{Code}
use Rattle.pam_base.specs.declared.call.AppCall.{AppCall}
use Rattle.pam_base.specs.declared.call.Step.{Step}
use Rattle.std.specs.List.{flat_map}
use Rattle.data_cleanup.specs.declared.receipt.Filed.{Filed}
use Rattle.data_cleanup.specs.Ledger.{PlainLedger}
use Rattle.data_cleanup.specs.declared.datum.Birth.{Birth}
use Rattle.pam_handle.specs.pam_room.specs.Module.{Player}
use Rattle.pam_handle.specs.pam_room.specs.State.{PlainWorld}
use Rattle.pam_library.specs.Alike.{AreAlike, AreInOrder, Cleaned, ComeToSame, IsRecordedAt, Shown, births_on, cleaned_as, cleaned_after, receipts_on, shown_to, slot_without_ids, told_in}
use Rattle.pam_library.specs.Slots.{PlainSlot, closed, opened, slot_at, with_slot}
use Rattle.pam_library.specs.SlotStep.{SlotStepped, filed_in, slot_step}
use Rattle.pam_library.specs.Step.{Stepped, stepped, stepped_at}
use Rattle.pam_library.proofs.SlotNumberFacts.{slot_at-with_slot_same, slot_at-with_slot_other}
use Rattle.pam_library.proofs.Placewise.{PlaceTwins, WorldTwins, filed_from_is, place_twins}
use Rattle.pam_library.proofs.RecordedDataFacts.{cleaned_then, still_recorded}
use Rattle.pam_library.proofs.Twins.{KeptIn}

-- ---- the order of all slots

still_at : (number : ℕ) (births more : List Birth) (slot : PlainSlot) → IsRecordedAt number births slot → IsRecordedAt number (births ++ more) slot
still_at number births more (closed conv) r = tt
still_at number births more (opened h) r = record {
  handle_is = r.handle_is;
  live = still_recorded number births more h.room.transaction.datums.live r.live;
  gone = still_recorded number births more h.room.transaction.datums.gone r.gone;
}

module _ (n number : ℕ) (slots : List PlainSlot) (old new : PlainSlot) (start w : PlainWorld) where
  in_order : slot_at slots number ≡ Some old → AreInOrder slots start.process.ledger → KeptIn n number start w
      → IsRecordedAt number w.process.ledger.births new → AreInOrder (with_slot slots number new) w.process.ledger
  in_order there order k here = record { filed = k.filed; each = each }
    where
      other : (m : ℕ) (slot : PlainSlot) → nat_eq m number ≡ false → slot_at (with_slot slots number new) m ≡ Some slot
          → IsRecordedAt m w.process.ledger.births slot
      other m slot differs is =
          let before : slot_at slots m ≡ Some slot = sym (slot_at-with_slot_other slots number m new (λ (same : m ≡ number). grind (arith, nat_tests))) ∙ is in
          subst (λ (births : List Birth). IsRecordedAt m births slot) (sym k.births) (still_at m start.process.ledger.births k.added slot (order.each m slot before))

      own : (m : ℕ) (slot : PlainSlot) → m ≡ number → slot_at (with_slot slots number new) m ≡ Some slot → IsRecordedAt m w.process.ledger.births slot
      own m slot same is =
          let found : Some new ≡ Some slot = sym (slot_at-with_slot_same slots number old new there) ∙ ap (slot_at (with_slot slots number new)) (sym same) ∙ is in
          let slots_are : new ≡ slot = λ i. elim (found i) [ Some x ↦ x | None ↦ new ] in
          subst (λ (s : PlainSlot). IsRecordedAt m w.process.ledger.births s) slots_are (subst (λ (i : ℕ). IsRecordedAt i w.process.ledger.births new) (sym same) here)

      each : (m : ℕ) (slot : PlainSlot) → slot_at (with_slot slots number new) m ≡ Some slot → IsRecordedAt m w.process.ledger.births slot
      each m slot is = elim (nat_eq m number) as (λ (b : Bool). nat_eq m number ≡ b → IsRecordedAt m w.process.ledger.births slot) [
        | true ↦ λ e. own m slot (grind (arith, nat_tests)) is
        | false ↦ λ e. other m slot e is
      ] refl

-- ---- a call begins

nothing_left : (fs : List Filed) → drop (length fs) fs ≡ []
nothing_left [] = refl
nothing_left (f ∷ fs) = nothing_left fs

none_cleaned : (ledger : PlainLedger) → cleaned_after (length ledger.filed) ledger ≡ []
none_cleaned ledger = ap (flat_map (cleaned_as ledger.births)) (nothing_left ledger.filed)

kept_first : (n number : ℕ) (slots : List PlainSlot) (w : PlainWorld) → AreInOrder slots w.process.ledger
    → Rattle.pam_library.specs.Alike.NoCallFails w.vault → KeptIn n number w w
kept_first n number slots w order quiet = record {
  quiet = quiet;
  clock_is = refl;
  root_is = refl;
  caller_is = refl;
  filed = order.filed;
  added = [];
  births = sym (append-nil w.process.ledger.births);
  more = [];
  filed_is = sym (append-nil w.process.ledger.filed);
  more_own = tt;
  other_births = λ other. refl;
  other_receipts = λ other. refl;
}

module _ (players : List Player) (number_of : Code → ℕ → ℕ) where
  -- ---- on this number

  abbrev OwnAt : ℕ → AppCall → List PlainSlot → List PlainSlot → PlainWorld → PlainWorld → Option PlainSlot → Option PlainSlot → Type 0
  OwnAt number call slots others w v a b =
      let x : Stepped = stepped_at players number_of slots w number call a in
      let y : Stepped = stepped_at players number_of others v number call b in
      ComeToSame number x y

  own_both : (number : ℕ) (call : AppCall) (slots others : List PlainSlot) (w v : PlainWorld) (a b : PlainSlot) → AreAlike number slots w others v →
      slot_at slots number ≡ Some a → slot_at others number ≡ Some b → slot_without_ids a ≡ slot_without_ids b → OwnAt number call slots others w v (Some a) (Some b)
  own_both number call slots others w v a b h there_a there_b same =
      let x : SlotStepped = slot_step players number_of number a w call in
      let y : SlotStepped = slot_step players number_of number b v call in
      let worlds : WorldTwins number number w v w v = record {
        shown = h.shown;
        first_kept = kept_first number number slots w h.first_order h.first_quiet;
        second_kept = kept_first number number others v h.second_order h.second_quiet;
      } in
      let t : PlaceTwins number number w v x y =
      place_twins number number w v players number_of a b w v call same worlds (h.first_order.each number a there_a) (h.second_order.each number b there_b) in
      let cleaned_first : receipts_on number x.world.process.ledger ≡ receipts_on number w.process.ledger ++ cleaned_after (filed_in w) x.world.process.ledger =
      cleaned_then number w.process.ledger x.world.process.ledger t.first_kept.added t.first_kept.more t.first_kept.births t.first_kept.filed_is h.first_order.filed t.first_kept.more_own in
      let cleaned_second : receipts_on number y.world.process.ledger ≡ receipts_on number v.process.ledger ++ cleaned_after (filed_in v) y.world.process.ledger =
      cleaned_then number v.process.ledger y.world.process.ledger t.second_kept.added t.second_kept.more t.second_kept.births t.second_kept.filed_is h.second_order.filed t.second_kept.more_own in
      let after : receipts_on number x.world.process.ledger ≡ receipts_on number y.world.process.ledger = λ i. (t.shown i).receipts in
      let before : receipts_on number w.process.ledger ≡ receipts_on number v.process.ledger = λ i. (h.shown i).receipts in
      let cleaned : cleaned_after (filed_in w) x.world.process.ledger ≡ cleaned_after (filed_in v) y.world.process.ledger =
      append_cancel_left (receipts_on number w.process.ledger) (cleaned_after (filed_in w) x.world.process.ledger) (cleaned_after (filed_in v) y.world.process.ledger)
      (sym cleaned_first ∙ after ∙ cleaned_second ∙ ap (λ (l : List Cleaned). l ++ cleaned_after (filed_in v) y.world.process.ledger) (sym before)) in
      record {
        told = t.told;
        cleaned = ap (λ (from : ℕ). cleaned_after from x.world.process.ledger) (filed_from_is players number_of number a w call) ∙ cleaned ∙ ap (λ (from : ℕ). cleaned_after from y.world.process.ledger) (sym (filed_from_is players number_of number b v call));
        alike = record {
          place = ap (option_map slot_without_ids) (slot_at-with_slot_same slots number a x.slot there_a) ∙ ap Some t.slot ∙ sym (ap (option_map slot_without_ids) (slot_at-with_slot_same others number b y.slot there_b));
          shown = t.shown;
          first_order = in_order number number slots a x.slot w x.world there_a h.first_order t.first_kept t.first_data;
          second_order = in_order number number others b y.slot v y.world there_b h.second_order t.second_kept t.second_data;
          first_quiet = t.first_kept.quiet;
          second_quiet = t.second_kept.quiet;
        };
      }

  own_at : (number : ℕ) (call : AppCall) (slots others : List PlainSlot) (w v : PlainWorld) (a b : Option PlainSlot) → AreAlike number slots w others v →
      slot_at slots number ≡ a → slot_at others number ≡ b → option_map slot_without_ids a ≡ option_map slot_without_ids b → OwnAt number call slots others w v a b
  own_at number call slots others w v (Some a) (Some b) h there_a there_b same =
      own_both number call slots others w v a b h there_a there_b (λ i. elim (same i) [ Some x ↦ x | None ↦ slot_without_ids a ])
  own_at number call slots others w v None None h there_a there_b same = record { told = refl; cleaned = none_cleaned w.process.ledger ∙ sym (none_cleaned v.process.ledger); alike = h }
  own_at number call slots others w v (Some a) None h there_a there_b same = absurd (cc)
  own_at number call slots others w v None (Some b) h there_a there_b same = absurd (cc)

  pub own_call : (step : Step) (slots others : List PlainSlot) (w v : PlainWorld) → AreAlike step.number slots w others v →
      ComeToSame step.number (stepped players number_of slots w step) (stepped players number_of others v step)
  unfolding stepped
  own_call step slots others w v h = own_at step.number step.call slots others w v (slot_at slots step.number) (slot_at others step.number) h refl refl h.place

  -- ---- on another number

  other_at : (n number : ℕ) (call : AppCall) (slots others : List PlainSlot) (w v : PlainWorld) (a : Option PlainSlot) → nat_eq number n ≡ false
      → AreAlike n slots w others v → slot_at slots number ≡ a →
      (stepped_at players number_of slots w number call a).world.vault.files ≡ w.vault.files →
      AreAlike n (stepped_at players number_of slots w number call a).slots (stepped_at players number_of slots w number call a).world others v
  other_at n number call slots others w v None differs h there files = h
  other_at n number call slots others w v (Some a) differs h there files =
      let x : SlotStepped = slot_step players number_of number a w call in
      let kept : KeptIn n number w w = kept_first n number slots w h.first_order h.first_quiet in
      let recorded : IsRecordedAt number w.process.ledger.births a = h.first_order.each number a there in
      let t : PlaceTwins n number w w x x =
      place_twins n number w w players number_of a a w w call refl (record { shown = refl; first_kept = kept; second_kept = kept }) recorded recorded in
      let k : KeptIn n number w x.world = t.first_kept in
      let births : births_on n x.world.process.ledger.births ≡ births_on n w.process.ledger.births = k.other_births differs in
      let receipts : receipts_on n x.world.process.ledger ≡ receipts_on n w.process.ledger = k.other_receipts differs in
      let stays : shown_to n x.world ≡ shown_to n w = λ i. record { files = files i; clock = k.clock_is i; root = k.root_is i; caller = k.caller_is i; births = births i; receipts = receipts i } in
      record {
        place = ap (option_map slot_without_ids) (slot_at-with_slot_other slots number n x.slot (λ (same : n ≡ number). grind (arith, nat_tests))) ∙ h.place;
        shown = stays ∙ h.shown;
        first_order = in_order n number slots a x.slot w x.world there h.first_order k t.first_data;
        second_order = h.second_order;
        first_quiet = k.quiet;
        second_quiet = h.second_quiet;
      }

  pub other_call : (number : ℕ) (step : Step) (slots others : List PlainSlot) (w v : PlainWorld) → nat_eq step.number number ≡ false
      → AreAlike number slots w others v →
      (stepped players number_of slots w step).world.vault.files ≡ w.vault.files →
      AreAlike number (stepped players number_of slots w step).slots (stepped players number_of slots w step).world others v
  unfolding stepped
  other_call number step slots others w v differs h files = other_at number step.number step.call slots others w v (slot_at slots step.number) differs h refl files
