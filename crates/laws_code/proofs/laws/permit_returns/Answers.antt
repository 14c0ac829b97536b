use Rattle.laws_code.proofs.At_once.{permits}
use Rattle.laws_code.proofs.laws.permit_returns.Goals as goal

pub returns : goal.returns
returns c = permits
