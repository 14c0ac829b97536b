-- The steps of a run in one slot.
use Rattle.std.proofs.Common.{◌≡◌, ℕ, Bool, true, false, nat_eq, if◌then◌else◌, List, [], ◌∷◌, Option, Some, None, refl, sym, ap, ◌∙◌, arith}
use Rattle.std.proofs.lemmas.Bool.Decides.{nat_tests}
use Rattle.pam_base.specs.declared.code.Code.{Code}
use Rattle.pam_handle.specs.pam_room.specs.Module.{Player}
use Rattle.pam_library.specs.Outcome.{PlainOutcome}
use Rattle.pam_library.specs.Slots.{PlainSlot, slot_at, with_slot}
use Rattle.pam_library.specs.SlotStep.{slot_step}
use Rattle.pam_library.specs.Step.{Stepped, stepped, stepped_at}
use Rattle.pam_library.specs.SideBySide.{Met, own_steps, slots_after, outcomes_on, alone, outcomes_alone}
use Rattle.pam_library.proofs.SlotNumberFacts.{slot_at-with_slot_same, slot_at-with_slot_other}

module _ (players : List Player) (number_of : Code → ℕ → ℕ) where
  -- a step by the slot of its number
  at_place : (slots : List PlainSlot) (m : Met) (found : Option PlainSlot) → slot_at slots m.step.number ≡ found
      → stepped players number_of slots m.world m.step ≡ stepped_at players number_of slots m.world m.step.number m.step.call found
  unfolding stepped
  at_place slots m found is = ap (stepped_at players number_of slots m.world m.step.number m.step.call) is

  abbrev of_place : ℕ → PlainSlot → Met → PlainSlot
  of_place number slot m = (slot_step players number_of number slot m.world m.step.call).slot

  -- a step on this number
  own_slot : (number : ℕ) (slots : List PlainSlot) (m : Met) (slot : PlainSlot) → m.step.number ≡ number → slot_at slots number ≡ Some slot
      → slot_at (stepped players number_of slots m.world m.step).slots number ≡ Some (of_place number slot m)
  own_slot number slots m slot same is =
      let here : slot_at slots m.step.number ≡ Some slot = ap (slot_at slots) same ∙ is in
      let s : stepped players number_of slots m.world m.step ≡ stepped_at players number_of slots m.world m.step.number m.step.call (Some slot) = at_place slots m (Some slot) here in
      ap (λ (t : Stepped). slot_at t.slots number) s
      ∙ ap (slot_at (with_slot slots m.step.number (of_place m.step.number slot m))) (sym same)
      ∙ slot_at-with_slot_same slots m.step.number slot (of_place m.step.number slot m) here
      ∙ ap (λ (n : ℕ). Some (of_place n slot m)) same

  own_outcome : (number : ℕ) (slots : List PlainSlot) (m : Met) (slot : PlainSlot) → m.step.number ≡ number → slot_at slots number ≡ Some slot
      → (stepped players number_of slots m.world m.step).outcome ≡ (slot_step players number_of number slot m.world m.step.call).outcome
  own_outcome number slots m slot same is =
      ap (λ (t : Stepped). t.outcome) (at_place slots m (Some slot) (ap (slot_at slots) same ∙ is))
      ∙ ap (λ (n : ℕ). (slot_step players number_of n slot m.world m.step.call).outcome) same

  other_place : (slots : List PlainSlot) (m : Met) (number : ℕ) (found : Option PlainSlot) → (number ≡ m.step.number → ⊥)
      → slot_at (stepped_at players number_of slots m.world m.step.number m.step.call found).slots number ≡ slot_at slots number
  other_place slots m number None differs = refl
  other_place slots m number (Some slot) differs = slot_at-with_slot_other slots m.step.number number (of_place m.step.number slot m) differs

  -- a step on another number
  pub other_slot : (number : ℕ) (slots : List PlainSlot) (m : Met) → (number ≡ m.step.number → ⊥)
      → slot_at (stepped players number_of slots m.world m.step).slots number ≡ slot_at slots number
  other_slot number slots m differs =
      ap (λ (t : Stepped). slot_at t.slots number) (at_place slots m (slot_at slots m.step.number) refl) ∙ other_place slots m number (slot_at slots m.step.number) differs

  -- the steps, depending on whether the first is on this number
  module _ (number : ℕ) where
    abbrev SlotAgrees : List PlainSlot → PlainSlot → List Met → Type 0
    SlotAgrees slots slot steps = slot_at (slots_after players number_of slots steps) number ≡ Some (alone players number_of number slot (own_steps number steps))

    abbrev OutcomesAgree : List PlainSlot → PlainSlot → List Met → Type 0
    OutcomesAgree slots slot steps = outcomes_on players number_of number slots steps ≡ outcomes_alone players number_of number slot (own_steps number steps)

    pub slot_alone : (steps : List Met) (slots : List PlainSlot) (slot : PlainSlot) → slot_at slots number ≡ Some slot → SlotAgrees slots slot steps
    slot_alone [] slots slot is = is
    slot_alone (m ∷ steps) slots slot is =
        let next : List PlainSlot = (stepped players number_of slots m.world m.step).slots in
        elim (nat_eq m.step.number number) as (λ (b : Bool). nat_eq m.step.number number ≡ b → slot_at (slots_after players number_of next steps) number ≡ Some (alone players number_of number slot (if b then m ∷ own_steps number steps else own_steps number steps))) [
          | true ↦ λ e. slot_alone steps next (of_place number slot m) (own_slot number slots m slot (grind (arith, nat_tests)) is)
          | false ↦ λ e. slot_alone steps next slot (other_slot number slots m (λ (same : number ≡ m.step.number). grind (arith, nat_tests)) ∙ is)
        ] refl

    pub outcomes_are : (steps : List Met) (slots : List PlainSlot) (slot : PlainSlot) → slot_at slots number ≡ Some slot → OutcomesAgree slots slot steps
    outcomes_are [] slots slot is = refl
    outcomes_are (m ∷ steps) slots slot is =
        let s : Stepped = stepped players number_of slots m.world m.step in
        elim (nat_eq m.step.number number) as (λ (b : Bool). nat_eq m.step.number number ≡ b →
        (if b then s.outcome ∷ outcomes_on players number_of number s.slots steps else outcomes_on players number_of number s.slots steps)
        ≡ outcomes_alone players number_of number slot (if b then m ∷ own_steps number steps else own_steps number steps)) [
          | true ↦ λ e.
              let same : m.step.number ≡ number = grind (arith, nat_tests) in
              ap (λ (o : PlainOutcome). o ∷ outcomes_on players number_of number s.slots steps) (own_outcome number slots m slot same is)
              ∙ ap (λ (os : List PlainOutcome). (slot_step players number_of number slot m.world m.step.call).outcome ∷ os) (outcomes_are steps s.slots (of_place number slot m) (own_slot number slots m slot same is))
          | false ↦ λ e. outcomes_are steps s.slots slot (other_slot number slots m (λ (same : number ≡ m.step.number). grind (arith, nat_tests)) ∙ is)
        ] refl
