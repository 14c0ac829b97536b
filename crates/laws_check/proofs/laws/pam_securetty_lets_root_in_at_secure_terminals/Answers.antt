use Rattle.laws_check.proofs.Securetty.{root_is_there}
use Rattle.laws_check.proofs.laws.pam_securetty_lets_root_in_at_secure_terminals.Goals as goal

pub returns : goal.returns
returns c = root_is_there
