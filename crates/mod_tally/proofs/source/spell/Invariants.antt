use Rattle.std.proofs.Common.{◌≡◌, ◌++◌, length}
use Rattle.mod_tally.specs.Source.{spelled}
use Rattle.mod_tally.proofs.source.spell.Given as goal

abbrev pub invariant-loop-rest : goal.invariant-loop-rest
invariant-loop-rest l = l.out.items ++ spelled l.rest ≡ l.fn.out.items ++ spelled l.source

abbrev pub decreases-loop-rest : goal.decreases-loop-rest
decreases-loop-rest l = length l.rest
