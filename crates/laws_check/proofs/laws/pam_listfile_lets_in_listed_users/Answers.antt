use Rattle.laws_check.proofs.Listfile.{allowed_are_named}
use Rattle.laws_check.proofs.laws.pam_listfile_lets_in_listed_users.Goals as goal

pub returns : goal.returns
returns c = allowed_are_named
