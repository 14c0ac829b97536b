use Rattle.pam_handle.proofs.AfterPassesFacts.{ends_leave_it}
use Rattle.pam_handle.proofs.laws.ends_leave_it.Goals as goal

pub returns : goal.returns
returns c = ends_leave_it
