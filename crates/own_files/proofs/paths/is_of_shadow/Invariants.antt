use Rattle.std.proofs.Common.{◌≡◌, length}
use Rattle.own_files.specs.Paths.{is_of_shadow}
use Rattle.own_files.proofs.paths.is_of_shadow.Given as goal

abbrev pub invariant-loop-rest : goal.invariant-loop-rest
invariant-loop-rest l = is_of_shadow l.path ≡ is_of_shadow l.rest

abbrev pub decreases-loop-rest : goal.decreases-loop-rest
decreases-loop-rest l = length l.rest
