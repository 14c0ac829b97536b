use Rattle.std.proofs.Common.{◌≡◌, ◌++◌, length}
use Rattle.mod_lists.specs.SucceedIf.{conditions_in}
use Rattle.mod_lists.proofs.pam_succeed_if.conditions_in.Given as goal

abbrev pub invariant-loop-rest : goal.invariant-loop-rest
invariant-loop-rest l = l.conditions ++ conditions_in l.rest ≡ conditions_in l.args

abbrev pub decreases-loop-rest : goal.decreases-loop-rest
decreases-loop-rest l = length l.rest
