use Rattle.laws_code.proofs.DebugCodeFacts.{debugs}
use Rattle.laws_code.proofs.laws.debug_returns_each.Goals as goal

pub returns : goal.returns
returns c = debugs
