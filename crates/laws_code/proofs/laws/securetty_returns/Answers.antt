use Rattle.laws_code.proofs.UserCheckFacts.{terminals}
use Rattle.laws_code.proofs.laws.securetty_returns.Goals as goal

pub returns : goal.returns
returns c = terminals
