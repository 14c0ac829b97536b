-- The invariant of a cleanup log.
use Rattle.std.specs.Prelude.{◌≤◌, length, vec_capacity}
use Rattle.data_cleanup.specs.Ledger.{IsSound, AreNumbered}
use Rattle.data_cleanup.specs.declared.ledger.Ledger.TheInside.{Inside}

-- there is room for the cleanup record of each set
pub record IsKept (l : Inside) : Type 0 where
  pub sound : IsSound l.births l.filed.items
  pub room : length l.births ≤ vec_capacity l.filed
  pub numbered : AreNumbered 0 l.births
