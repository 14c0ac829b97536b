-- One step (this project's own): a call on the transaction of a number.
use Rattle.std.specs.Prelude.{◌≡◌, ℕ, List, Option, Some, None}
use Rattle.pam_base.specs.declared.code.Code.{Code}
use Rattle.pam_base.specs.declared.call.AppCall.{AppCall}
use Rattle.pam_base.specs.declared.call.Step.{Step}
use Rattle.pam_handle.specs.pam_room.specs.Module.{Player}
use Rattle.pam_handle.specs.pam_room.specs.State.{PlainWorld}
use Rattle.pam_library.specs.declared.outcome.Answer.TheVariants as answers
use Rattle.pam_library.specs.Outcome.{PlainOutcome, answers_only}
use Rattle.pam_library.specs.Slots.{PlainSlot, slot_at, with_slot}
use Rattle.pam_library.specs.SlotStep.{SlotStepped, filed_in, slot_step}

-- the slots, the world, and what the step reported and returned
pub record Stepped : Type 0 where
  pub slots : List PlainSlot
  pub world : PlainWorld
  pub outcome : PlainOutcome

-- a step in one slot leaves every other slot as it was
abbrev pub stepped_in : List PlainSlot → ℕ → SlotStepped → Stepped
stepped_in slots number s = record {
  slots = with_slot slots number s.slot;
  world = s.world;
  outcome = s.outcome;
}

module _ (players : List Player) (number_of : Code → ℕ → ℕ) where
  -- the step in the slot of that number, if there is one
  abbrev pub stepped_at : List PlainSlot → PlainWorld → ℕ → AppCall → Option PlainSlot → Stepped
  stepped_at slots w number call None =
      record { slots = slots; world = w; outcome = answers_only (filed_in w) answers.BadNumber }
  stepped_at slots w number call (Some slot) =
      stepped_in slots number (slot_step players number_of number slot w call)

  unfoldable pub stepped : List PlainSlot → PlainWorld → Step → Stepped
  stepped slots w step = stepped_at slots w step.number step.call (slot_at slots step.number)

-- an outcome, slots and a world are those of a step
pub record StepsAs (s : Stepped) (outcome : PlainOutcome) (slots : List PlainSlot)
    (world : PlainWorld) : Type 0 where
  pub outcome_is : outcome ≡ s.outcome
  pub slots_is : slots ≡ s.slots
  pub world_is : world ≡ s.world
