use Rattle.handler_chain.proofs.ResumedPassFacts.{goes_on}
use Rattle.handler_chain.proofs.laws.goes_on.Goals as goal

pub returns : goal.returns
returns g c = goes_on _
