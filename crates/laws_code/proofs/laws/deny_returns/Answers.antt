use Rattle.laws_code.proofs.At_once.{denies}
use Rattle.laws_code.proofs.laws.deny_returns.Goals as goal

pub returns : goal.returns
returns c = denies
