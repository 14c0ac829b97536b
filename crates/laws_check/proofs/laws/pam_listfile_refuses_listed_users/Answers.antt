use Rattle.laws_check.proofs.Listdeny.{denied_are_not_named}
use Rattle.laws_check.proofs.laws.pam_listfile_refuses_listed_users.Goals as goal

pub returns : goal.returns
returns c = denied_are_not_named
