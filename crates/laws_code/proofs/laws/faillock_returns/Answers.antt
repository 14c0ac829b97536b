use Rattle.laws_code.proofs.FaillockCodeFacts.{tallies}
use Rattle.laws_code.proofs.laws.faillock_returns.Goals as goal

pub returns : goal.returns
returns c = tallies
