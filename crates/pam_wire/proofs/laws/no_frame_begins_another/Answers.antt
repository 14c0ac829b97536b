use Rattle.pam_wire.proofs.Lawful.{begins_no_other}
use Rattle.pam_wire.proofs.laws.no_frame_begins_another.Goals as goal

pub returns : goal.returns
returns c = begins_no_other
