use Rattle.pam_wire.proofs.BytePrefixFacts.{first_frame_settles}
use Rattle.pam_wire.proofs.laws.first_frame_settles.Goals as goal

pub returns : goal.returns
returns c = first_frame_settles
