use Rattle.std.proofs.Common.{◌≡◌, ◌++◌, length}
use Rattle.own_files.proofs.lines.push_bytes.Given as goal

abbrev pub invariant-loop-rest : goal.invariant-loop-rest
invariant-loop-rest l = l.own ++ l.rest ≡ l.fn.own ++ l.bytes

abbrev pub decreases-loop-rest : goal.decreases-loop-rest
decreases-loop-rest l = length l.rest
