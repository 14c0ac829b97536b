use Rattle.laws_code.proofs.UserCheckFacts.{wheels}
use Rattle.laws_code.proofs.laws.wheel_returns.Goals as goal

pub returns : goal.returns
returns c = wheels
