-- What a pass does to a transaction and to what its process shares, with real objects too and even if an allocation
-- fails.
use Rattle.std.specs.Prelude.{◌≡◌, ℕ, List, ◌++◌}
use Rattle.pam_room.specs.data_cleanup.specs.Cleanup.{Notes}
use Rattle.pam_room.specs.data_cleanup.specs.Grows.{Grows}
use Rattle.pam_room.specs.Module.{notes_of}
use Rattle.pam_room.specs.State.{PlainTransaction, PlainProcess}
use Rattle.pam_room.specs.Stays.{IsReady, Stays}
use Rattle.pam_room.specs.declared.visits.Visit.{Visit}
use Rattle.dispatch_core.specs.Around.{Around}

-- what modules may not change stays, lines run are only added, and the data and the cleanup log grow
pub record GoesSoundly (note : Notes) (modules : ℕ) (old new : PlainTransaction)
    (before after : PlainProcess) : Type 0 where
  pub stays : Stays old new before after
  pub trail : (more : List Visit) × (new.trail ≡ old.trail ++ more)
  pub grows : Grows note modules old.datums before.ledger new.datums after.ledger

-- What a pass, and each line of it, keeps in every case: what was modelled before is modelled after, nothing has slept,
-- and the next module may serve, with this number of modules.
pub record PassStays (modules : ℕ) (a : Around) : Type 0 where
  pub room_tells : a.new.room_tells ≡ a.old.room_tells
  pub world_tells : a.new.world_tells ≡ a.old.world_tells
  pub nap : a.nap_is_kept
  pub sound : GoesSoundly (notes_of a.players) modules a.old.state.room.transaction
      a.new.state.room.transaction a.old.state.world.process a.new.state.world.process
  pub ready : IsReady modules a.new.state.room.transaction a.new.state.world.process
