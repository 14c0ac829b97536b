-- A library that a command opens, over a world under its root (this project's own).
use Rattle.std.specs.Prelude.{◌≡◌, ℕ, List, [], Result, IfOk, OnErr, IsTrue}
use Rattle.pam_base.specs.declared.code.Code.{Code}
use Rattle.pam_base.specs.declared.fault.NoMemory.{NoMemory}
use Rattle.data_cleanup.specs.Modelled.{ModelsEvents}
use Rattle.pam_room.specs.Module.{notes_of}
use Rattle.pam_room.specs.State.{PlainWorld}
use Rattle.pam_library.specs.Slots.{handle_limit, lists_of}
use Rattle.cmd_run.specs.Seen.{IsSoundIn, NoneIsOpenIn, SessionSeen}
use Rattle.cmd_all.specs.ByCommand.{Setup}
use Rattle.cmd_all.specs.Login.{at_root}
use Rattle.cmd_all.specs.Run.{IsReset}
use Rattle.cmd_all.specs.Setup.{Around}

-- It has these modules, conversations and delay function, no transaction is open, and no module data have been set.
pub record IsFresh (setup : Setup) (seen : SessionSeen) : Type 0 where
  pub players : seen.players ≡ setup.players
  pub slots : seen.slots ≡ setup.slots
  pub tells : IsTrue setup.tells → IsTrue seen.tells
  pub gives : (number : Code → ℕ → ℕ) → setup.gives number → seen.gives number
  pub none_open : NoneIsOpenIn seen
  pub sound : IsSoundIn seen
  pub none_yet : ModelsEvents (notes_of seen.players) handle_limit seen.world.process.ledger
      (lists_of seen.slots) []

-- the same, and the world is as before but with this root
pub record IsOpened (root : List ℕ) (setup : Setup) (before : PlainWorld) (seen : SessionSeen) : Type
    0 where
  pub players : seen.players ≡ setup.players
  pub slots : seen.slots ≡ setup.slots
  pub tells : IsTrue setup.tells → IsTrue seen.tells
  pub gives : (number : Code → ℕ → ℕ) → setup.gives number → seen.gives number
  pub world_is : seen.world ≡ at_root root before
  pub none_open : NoneIsOpenIn seen
  pub sound : IsSoundIn seen
  pub none_yet : ModelsEvents (notes_of seen.players) handle_limit before.process.ledger
      (lists_of seen.slots) []

-- ---- what changes of the world

-- it has this root
pub record IsAtRoot (root : List ℕ) (world : Around) : Type 0 where
  pub tells : world.tells_after ≡ world.tells
  pub world_is : world.new ≡ at_root root world.old

-- its clock has the time 0 and the random word 0
pub record ResetsClock (world : Around) : Type 0 where
  pub tells : world.tells_after ≡ world.tells
  pub told : IsTrue world.tells → IsReset world.old world.new
  pub process : world.new.process ≡ world.old.process

-- a library was opened, or an allocation failed, and the world is as it was
pub record OpensUnder {L : Type 0} (root : List ℕ) (result : Result L NoMemory) (setup : Setup)
    (world : Around) (seen : L → SessionSeen) : Type 0 where
  pub opened : IfOk result (λ library. IsOpened root setup world.old (seen library))
  pub tells : world.tells_after ≡ world.tells
  pub stays : OnErr result (world.new ≡ world.old)
