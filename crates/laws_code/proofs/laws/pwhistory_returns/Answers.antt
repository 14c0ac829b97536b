use Rattle.laws_code.proofs.PwhistoryCodeFacts.{histories}
use Rattle.laws_code.proofs.laws.pwhistory_returns.Goals as goal

pub returns : goal.returns
returns c = histories
