use Rattle.laws_code.proofs.UnixCodeFacts.{passwords}
use Rattle.laws_code.proofs.laws.unix_returns.Goals as goal

pub returns : goal.returns
returns c = passwords
