use Rattle.pam_wire.proofs.Lawful.{one_frame, one_step}
use Rattle.pam_wire.proofs.laws.frame_of_a_step_is_one.Goals as goal

pub returns-clause-one_frame : goal.returns-clause-one_frame
returns-clause-one_frame c = one_frame

pub returns-clause-one_step : goal.returns-clause-one_step
returns-clause-one_step c = one_step
