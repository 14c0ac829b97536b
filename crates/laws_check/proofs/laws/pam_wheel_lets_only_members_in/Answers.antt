use Rattle.laws_check.proofs.Wheel.{only_members_go_on}
use Rattle.laws_check.proofs.laws.pam_wheel_lets_only_members_in.Goals as goal

pub returns : goal.returns
returns c = only_members_go_on
