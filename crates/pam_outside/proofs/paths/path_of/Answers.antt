use Rattle.std.proofs.Common.{rules}
use Rattle.pam_outside.specs.Paths.{path_of}
use Rattle.pam_outside.proofs.paths.path_of.Goals as goal

pub returns : goal.returns
unfolding path_of
returns c = search rules
