use Rattle.pam_library.proofs.Quiet.{quiet_where_none_listed}
use Rattle.pam_library.proofs.laws.no_call_fails_where_none_is_listed.Goals as goal

pub returns : goal.returns
returns c = quiet_where_none_listed
