use Rattle.laws_code.proofs.UserCheckFacts.{trust_alone}
use Rattle.laws_code.proofs.laws.wheel_succeeds_if_trusting.Goals as goal

pub returns : goal.returns
returns c = trust_alone
