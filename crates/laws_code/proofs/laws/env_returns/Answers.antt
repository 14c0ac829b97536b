use Rattle.laws_code.proofs.Environment.{environments}
use Rattle.laws_code.proofs.laws.env_returns.Goals as goal

pub returns : goal.returns
returns c = environments
