use Rattle.pam_wire.proofs.Lawful.{reads_table}
use Rattle.pam_wire.proofs.laws.frame_is_read.Goals as goal

pub returns : goal.returns
returns c = reads_table
