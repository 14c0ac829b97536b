use Rattle.handler_chain.proofs.ReplayedWalkFacts.{retells}
use Rattle.handler_chain.proofs.laws.retells.Goals as goal

pub returns : goal.returns
returns g c = retells _
