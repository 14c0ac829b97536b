-- Transactions side by side (this project's own): the results of a run's steps in one slot.
use Rattle.std.specs.Prelude.{ℕ, nat_eq, if◌then◌else◌, List, [], ◌∷◌, filter}
use Rattle.pam_base.specs.declared.code.Code.{Code}
use Rattle.pam_base.specs.declared.call.Step.{Step}
use Rattle.pam_handle.specs.pam_room.specs.Module.{Player}
use Rattle.pam_handle.specs.pam_room.specs.State.{PlainWorld}
use Rattle.pam_library.specs.Outcome.{PlainOutcome}
use Rattle.pam_library.specs.Slots.{PlainSlot}
use Rattle.pam_library.specs.SlotStep.{slot_step}
use Rattle.pam_library.specs.Step.{stepped}

-- a step, and the world before it
pub record Met : Type 0 where
  pub step : Step
  pub world : PlainWorld

-- the steps on one number
abbrev pub own_steps : ℕ → List Met → List Met
own_steps number steps = filter (λ (m : Met). nat_eq m.step.number number) steps

module _ (players : List Player) (number_of : Code → ℕ → ℕ) where
  -- all slots after some steps; between two of them the world may change
  abbrev pub slots_after : List PlainSlot → List Met → List PlainSlot
  slots_after slots [] = slots
  slots_after slots (m ∷ steps) =
      slots_after (stepped players number_of slots m.world m.step).slots steps

  -- the outcomes of the steps on one number, among them
  abbrev pub outcomes_on : ℕ → List PlainSlot → List Met → List PlainOutcome
  outcomes_on number slots [] = []
  outcomes_on number slots (m ∷ steps) =
      let s = stepped players number_of slots m.world m.step in
      if nat_eq m.step.number number then s.outcome ∷ outcomes_on number s.slots steps
      else outcomes_on number s.slots steps

  -- a slot by itself, after some steps in it
  abbrev pub alone : ℕ → PlainSlot → List Met → PlainSlot
  alone number slot [] = slot
  alone number slot (m ∷ steps) =
      alone number (slot_step players number_of number slot m.world m.step.call).slot steps

  -- the outcomes of these steps
  abbrev pub outcomes_alone : ℕ → PlainSlot → List Met → List PlainOutcome
  outcomes_alone number slot [] = []
  outcomes_alone number slot (m ∷ steps) =
      let s = slot_step players number_of number slot m.world m.step.call in
      s.outcome ∷ outcomes_alone number s.slot steps
