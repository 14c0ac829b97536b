use Rattle.laws_check.proofs.Shells.{shell_is_listed}
use Rattle.laws_check.proofs.laws.pam_shells_lets_in_listed_shells.Goals as goal

pub returns : goal.returns
returns c = shell_is_listed
