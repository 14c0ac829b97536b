use Rattle.handler_chain.proofs.PathLaws.{follows_route, finds_kept}
use Rattle.handler_chain.proofs.laws.follows_route.Goals as goal

pub returns-clause-route : goal.returns-clause-route
returns-clause-route g c = follows_route _

pub returns-clause-found : goal.returns-clause-found
returns-clause-found g c = finds_kept _
