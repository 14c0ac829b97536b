use Rattle.std.proofs.Common.{◌≡◌, length}
use Rattle.mod_env.specs.Marks.{begins_with}
use Rattle.mod_env.proofs.marks.begins_with.Given as goal

abbrev pub invariant-loop-left : goal.invariant-loop-left
invariant-loop-left l = begins_with l.left l.rest ≡ begins_with l.word l.marks

abbrev pub decreases-loop-left : goal.decreases-loop-left
decreases-loop-left l = length l.left
