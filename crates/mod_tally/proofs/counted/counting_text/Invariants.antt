use Rattle.std.proofs.Common.{◌≡◌, ◌++◌, filter, flat_map, length}
use Rattle.mod_tally.specs.Tally.{counting, counts, failure_line, tally_text}
use Rattle.mod_tally.proofs.counted.counting_text.Given as goal

abbrev pub invariant-loop-rest : goal.invariant-loop-rest
invariant-loop-rest l = l.out.items ++ flat_map failure_line (filter (counts l.interval l.greatest) l.rest) ≡ tally_text (counting l.interval l.failures)

abbrev pub decreases-loop-rest : goal.decreases-loop-rest
decreases-loop-rest l = length l.rest
