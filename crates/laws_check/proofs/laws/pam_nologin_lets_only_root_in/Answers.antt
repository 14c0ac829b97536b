use Rattle.laws_check.proofs.Nologin.{only_root_goes_on}
use Rattle.laws_check.proofs.laws.pam_nologin_lets_only_root_in.Goals as goal

pub returns : goal.returns
returns c = only_root_goes_on
