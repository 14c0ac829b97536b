use Rattle.std.proofs.Common.{◌≡◌, ◌+◌, ◌≤◌, count_by, length}
use Rattle.mod_tally.specs.Tally.{counts}
use Rattle.mod_tally.proofs.counted.count.Given as goal

abbrev pub invariant-loop-rest : goal.invariant-loop-rest
invariant-loop-rest l = record {
  so_far : l.count + count_by (counts l.interval l.greatest) l.rest ≡ count_by (counts l.interval l.greatest) l.failures;
  few : l.count + length l.rest ≤ length l.failures;
}

abbrev pub decreases-loop-rest : goal.decreases-loop-rest
decreases-loop-rest l = length l.rest
