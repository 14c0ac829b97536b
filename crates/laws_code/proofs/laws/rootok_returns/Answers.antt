use Rattle.laws_code.proofs.At_once.{roots}
use Rattle.laws_code.proofs.laws.rootok_returns.Goals as goal

pub returns : goal.returns
returns c = roots
