use Rattle.std.proofs.Common.{◌≡◌, ◌++◌, false, length}
use Rattle.mod_env.specs.Marks.{marks_from}
use Rattle.mod_env.proofs.marks.marks_of.Given as goal

abbrev pub invariant-loop-rest : goal.invariant-loop-rest
invariant-loop-rest l = l.marks.items ++ marks_from l.escaped l.rest ≡ marks_from false l.text

abbrev pub decreases-loop-rest : goal.decreases-loop-rest
decreases-loop-rest l = length l.rest
