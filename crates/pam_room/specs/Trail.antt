-- What contracts see of a list of lines that were run, a trace (this project's own).
use Rattle.std.specs.Prelude.{ℕ, List}
use Rattle.pam_room.specs.declared.visits.Visit.{Visit}

-- the lines that were run, in order, and how many more can be added without an allocation
pub record Trail : Type 0 where
  pub visits : List Visit
  pub spare : ℕ
