use Rattle.laws_code.proofs.ConditionCodeFacts.{conditions}
use Rattle.laws_code.proofs.laws.succeed_if_returns.Goals as goal

pub returns : goal.returns
returns c = conditions
