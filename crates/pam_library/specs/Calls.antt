-- The sets and ends in a list of calls of a library (this project's own).
use Rattle.std.specs.Prelude.{ℕ, List, [], ◌∷◌, ◌++◌, map, length, drop}
use Rattle.data_cleanup.specs.Ledger.{PlainLedger}
use Rattle.data_cleanup.specs.Cleanup.{Notes}
use Rattle.data_cleanup.specs.Due.{Event, birth}
use Rattle.data_cleanup.specs.declared.datum.Birth.{Birth}
use Rattle.data_cleanup.specs.Modelled.{Lists}
use Rattle.data_cleanup.specs.Moves.{Moves}

-- a call: the end that it made, if it made one, and the cleanup log and data lists after it
pub record Moved : Type 0 where
  pub ended : List Event
  pub ledger : PlainLedger
  pub lists : Lists

-- each call continued from the log and lists that the one before it had left
abbrev pub MoveOn : Notes → ℕ → PlainLedger → Lists → List Moved → Type 0
MoveOn note limit ledger lists [] = Unit {0}
MoveOn note limit ledger lists (m ∷ calls) = Moves note limit m.ended ledger lists m.ledger m.lists
    × MoveOn note limit m.ledger m.lists calls

-- the sets that were added to a cleanup log
abbrev pub births_added : PlainLedger → PlainLedger → List Birth
births_added before after = drop (length before.births) after.births

-- for each call the sets that it added, in order, and then its end
abbrev pub events_of : PlainLedger → List Moved → List Event
events_of ledger [] = []
events_of ledger (m ∷ calls) = (map birth (births_added ledger m.ledger) ++ m.ended)
    ++ events_of m.ledger calls

abbrev pub last_ledger : PlainLedger → List Moved → PlainLedger
last_ledger ledger [] = ledger
last_ledger ledger (m ∷ calls) = last_ledger m.ledger calls

abbrev pub last_lists : Lists → List Moved → Lists
last_lists lists [] = lists
last_lists lists (m ∷ calls) = last_lists m.lists calls
