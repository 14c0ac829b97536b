-- What a library and its world show together (this project's own).
use Rattle.std.specs.Prelude.{◌&&◌, ℕ, Bool, List, Option, IsTrue}
use Rattle.pam_base.specs.declared.code.Code.{Code}
use Rattle.pam_base.specs.declared.call.Step.{Step}
use Rattle.pam_handle.specs.pam_room.specs.Module.{Player}
use Rattle.pam_handle.specs.pam_room.specs.State.{PlainWorld}
use Rattle.pam_library.specs.Slots.{PlainSlot, NoneIsOpen, slot_at}
use Rattle.pam_library.specs.Sound.{IsSoundFor}

-- the modules, the slots and the world, whether the conversations are modelled, and the objects of the world, which
-- numbers the delay function gives, and the file store's count of failed accesses
pub record SessionSeen : Type 1 where
  pub players : List Player
  pub slots : List PlainSlot
  pub world : PlainWorld
  pub tells : Bool
  pub world_tells : Bool
  pub gives : (Code → ℕ → ℕ) → Type 0
  pub faults : ℕ

-- all objects are modelled
abbrev pub AllTell : SessionSeen → Type 0
AllTell s = IsTrue (s.tells && s.world_tells)

-- the data without a cleanup record are those of the open transactions
abbrev pub IsSoundIn : SessionSeen → Type 0
IsSoundIn s = IsSoundFor s.players s.slots s.world.process.ledger

abbrev pub NoneIsOpenIn : SessionSeen → Type 0
NoneIsOpenIn s = NoneIsOpen s.slots

-- the slot of a step
abbrev pub slot_of : Step → SessionSeen → Option PlainSlot
slot_of step s = slot_at s.slots step.number
