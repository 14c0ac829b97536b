use Rattle.std.proofs.Common.{◌≡◌, length}
use Rattle.pam_outside.specs.Paths.{root_before}
use Rattle.pam_outside.proofs.paths.root_before.Given as goal

abbrev pub invariant-loop-front : goal.invariant-loop-front
invariant-loop-front l = root_before l.root ≡ root_before l.rest

abbrev pub decreases-loop-front : goal.decreases-loop-front
decreases-loop-front l = length l.rest
