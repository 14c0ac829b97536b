-- What a call does to the events that a cleanup log and the lists model (this project's own).
use Rattle.std.specs.Prelude.{◌≡◌, ℕ, List, ◌++◌, map}
use Rattle.data_cleanup.specs.Ledger.{PlainLedger}
use Rattle.data_cleanup.specs.Cleanup.{Notes}
use Rattle.data_cleanup.specs.Due.{Event, birth}
use Rattle.data_cleanup.specs.declared.datum.Birth.{Birth}
use Rattle.data_cleanup.specs.Modelled.{Lists, ModelsEvents}

-- Whatever events they model, afterwards they model these, then the records that were added, in
-- order, and then what ended.
pub record Moves (note : Notes) (limit : ℕ) (ended : List Event) (before : PlainLedger)
    (lists : Lists) (after : PlainLedger) (next : Lists) : Type 0 where
  pub added : List Birth
  pub births : after.births ≡ before.births ++ added
  pub stand : (events : List Event) → ModelsEvents note limit before lists events
      → ModelsEvents note limit after next (events ++ (map birth added ++ ended))
