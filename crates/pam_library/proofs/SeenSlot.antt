-- What a step in one slot works with, by its parts.
use Rattle.std.proofs.Common.{ℕ, Bool, List}
use Rattle.pam_base.specs.declared.code.Code.{Code}
use Rattle.pam_handle.specs.pam_room.specs.Module.{Player}
use Rattle.pam_handle.specs.pam_room.specs.State.{PlainWorld}
use Rattle.pam_library.specs.InPlace.{SlotSeen}
use Rattle.pam_library.specs.Slots.{PlainSlot}

abbrev pub slot_seen : List Player → ((Code → ℕ → ℕ) → Type 0) → Bool → Bool → ℕ → PlainSlot → PlainWorld → SlotSeen
slot_seen players gives tells world_tells faults slot w = record {
  players = players;
  gives = gives;
  slot = slot;
  world = w;
  tells = tells;
  world_tells = world_tells;
  faults = faults;
}
