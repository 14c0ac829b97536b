use Rattle.std.proofs.Common.{◌≡◌, ◌++◌, length}
use Rattle.std.specs.List.{filter_map}
use Rattle.mod_env.specs.EnvFile.{assignment_in, assignments_of}
use Rattle.mod_env.proofs.env_file.assignments_of.Given as goal

abbrev pub invariant-loop-line : goal.invariant-loop-line
invariant-loop-line l = l.texts ++ filter_map assignment_in l.lines ≡ assignments_of l.text

abbrev pub decreases-loop-line : goal.decreases-loop-line
decreases-loop-line l = length l.lines
