use Rattle.laws_code.proofs.ConditionCodeFacts.{lists}
use Rattle.laws_code.proofs.laws.listfile_returns.Goals as goal

pub returns : goal.returns
returns c = lists
