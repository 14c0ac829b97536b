use Rattle.std.proofs.Common.{◌≡◌, length}
use Rattle.mod_history.specs.History.{neighbours_differ}
use Rattle.mod_history.proofs.distinct.neighbours_differ.Given as goal

abbrev pub invariant-loop-rest : goal.invariant-loop-rest
invariant-loop-rest l = neighbours_differ l.rest ≡ neighbours_differ l.texts

abbrev pub decreases-loop-rest : goal.decreases-loop-rest
decreases-loop-rest l = length l.rest
