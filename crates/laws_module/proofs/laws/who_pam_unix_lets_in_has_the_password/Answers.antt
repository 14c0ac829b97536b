use Rattle.laws_module.proofs.Letting_in.{let_in}
use Rattle.laws_module.proofs.laws.who_pam_unix_lets_in_has_the_password.Goals as goal

pub returns : goal.returns
returns c = let_in
