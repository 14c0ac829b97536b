-- What a call of a module leaves as it was, and what it may only add to, with real objects too (this project's own).
use Rattle.std.specs.Prelude.{◌≡◌, ◌≤◌, ℕ, Bool, List, [], ◌++◌}
use Rattle.conv_port.specs.declared.message.Message.{Message}
use Rattle.data_cleanup.specs.Cleanup.{AwaitCleanup}
use Rattle.data_cleanup.specs.Grows.{Grows}
use Rattle.pam_room.specs.State.{PlainTransaction, PlainProcess}
use Rattle.pam_room.specs.Module.{Player, notes_of}
use Rattle.pam_room.specs.Plain.{plain_process, plain_transaction}
use Rattle.pam_room.specs.declared.room.Room.{Room}
use Rattle.pam_room.specs.declared.world.World.{World}

-- The transaction and its data keep their number, SERVICE stays, the longest request for a delay doesn't shrink,
-- messages are only added, and root and caller stay.
pub record Stays (old new : PlainTransaction) (before after : PlainProcess) : Type 0 where
  pub handle : new.handle ≡ old.handle
  pub data_handle : new.datums.handle ≡ old.datums.handle
  pub service : new.items.service ≡ old.items.service
  pub delay : old.delay ≤ new.delay
  pub said : (more : List Message) × (new.said ≡ old.said ++ more)
  pub root : after.root ≡ before.root
  pub caller : after.caller ≡ before.caller

-- Between two calls: the data are those of this transaction, no replaced data wait, and each was set by one of n
-- modules and has no cleanup record.
pub record IsReady (modules : ℕ) (transaction : PlainTransaction) (process : PlainProcess) : Type
    0 where
  pub data_handle : transaction.datums.handle ≡ transaction.handle
  pub none_gone : transaction.datums.gone ≡ []
  pub awaiting : AwaitCleanup modules process.ledger transaction.datums.live

module _ {C X Y Z : Type 0} {T : C → Type 0} {U : X → Type 0} {V : Y → Type 0} {W : Z → Type 0} where
  -- the same for a room and a world
  abbrev pub BothStay : Room C T → Room C T → World X Y Z U V W → World X Y Z U V W → Type 0
  BothStay old new before after =
      Stays (plain_transaction old.transaction) (plain_transaction new.transaction)
      (plain_process before.process) (plain_process after.process)

  abbrev pub AreReady : ℕ → Room C T → World X Y Z U V W → Type 0
  AreReady modules room world =
      IsReady modules (plain_transaction room.transaction) (plain_process world.process)

  -- What a line keeps in every case: what was modelled before is modelled after, nothing has slept, modules kept what
  -- they have to, the data and the cleanup log only grow, and the next module may serve. The two functions say whether
  -- a room and a world are modelled.
  pub record LineStays (players : List Player) (modules : ℕ) (room_tell : Room C T → Bool)
      (world_tell : World X Y Z U V W → Bool) (old new : Room C T)
      (before after : World X Y Z U V W) : Type 0 where
    pub room_tells : room_tell new ≡ room_tell old
    pub world_tells : world_tell after ≡ world_tell before
    pub nap : after.nap ≡ before.nap
    pub stays : BothStay old new before after
    pub grows : Grows (notes_of players) modules old.transaction.datums before.process.ledger
        new.transaction.datums after.process.ledger
    pub ready : AreReady modules new after
