use Rattle.std.proofs.Common.{◌≡◌, max, length}
use Rattle.mod_tally.specs.Tally.{latest}
use Rattle.mod_tally.proofs.counted.latest.Given as goal

abbrev pub invariant-loop-rest : goal.invariant-loop-rest
invariant-loop-rest l = max l.greatest (latest l.rest) ≡ latest l.failures

abbrev pub decreases-loop-rest : goal.decreases-loop-rest
decreases-loop-rest l = length l.rest
