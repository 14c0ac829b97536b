use Rattle.std.proofs.Common.{◌≡◌, take, flat_map}
use Rattle.mod_tally.specs.Tally.{failure_line}
use Rattle.cmd_tally.proofs.finding.listed.Given as goal

abbrev pub invariant-loop-failure : goal.invariant-loop-failure
invariant-loop-failure l = l.text.items ≡ flat_map failure_line (take l.failure-index l.failures)
