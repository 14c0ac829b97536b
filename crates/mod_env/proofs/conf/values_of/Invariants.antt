use Rattle.std.proofs.Common.{◌≡◌, length}
use Rattle.mod_env.specs.Conf.{no_values, values_within}
use Rattle.mod_env.proofs.conf.values_of.Given as goal

abbrev pub invariant-loop-left : goal.invariant-loop-left
invariant-loop-left l = values_within l.left l.values l.rest ≡ values_within (length l.marks) no_values l.marks

abbrev pub decreases-loop-left : goal.decreases-loop-left
decreases-loop-left l = l.left
