use Rattle.std.proofs.Common.{◌≡◌, ◌++◌, length, map}
use Rattle.mod_history.specs.declared.history.Remembered.{Remembered}
use Rattle.mod_history.proofs.distinct.names_of.Given as goal

abbrev pub invariant-loop-rest : goal.invariant-loop-rest
invariant-loop-rest l = l.names ++ map (λ (r : Remembered). r.name) l.rest ≡ map (λ (r : Remembered). r.name) l.history

abbrev pub decreases-loop-rest : goal.decreases-loop-rest
decreases-loop-rest l = length l.rest
