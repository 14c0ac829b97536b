use Rattle.handler_chain.proofs.PathLaws.{keeps_complete, keeps_route}
use Rattle.handler_chain.proofs.laws.keeps_complete.Goals as goal

pub returns-clause-complete : goal.returns-clause-complete
returns-clause-complete g c = keeps_complete _

pub returns-clause-route : goal.returns-clause-route
returns-clause-route g c = keeps_route _
