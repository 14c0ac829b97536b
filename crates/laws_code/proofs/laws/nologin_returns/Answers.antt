use Rattle.laws_code.proofs.UserCheckFacts.{nologins}
use Rattle.laws_code.proofs.laws.nologin_returns.Goals as goal

pub returns : goal.returns
returns c = nologins
