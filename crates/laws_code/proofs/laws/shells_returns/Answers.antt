use Rattle.laws_code.proofs.UserCheckFacts.{shells_so}
use Rattle.laws_code.proofs.laws.shells_returns.Goals as goal

pub returns : goal.returns
returns c = shells_so
