use Rattle.std.proofs.Common.{◌≡◌, ◌++◌, length}
use Rattle.mod_env.specs.Marks.{text_of}
use Rattle.mod_env.proofs.marks.text_of.Given as goal

abbrev pub invariant-loop-rest : goal.invariant-loop-rest
invariant-loop-rest l = l.text ++ text_of l.rest ≡ text_of l.marks

abbrev pub decreases-loop-rest : goal.decreases-loop-rest
decreases-loop-rest l = length l.rest
