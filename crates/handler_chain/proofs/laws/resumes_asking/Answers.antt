use Rattle.handler_chain.proofs.IncompleteWalkFacts.{resumes_asking}
use Rattle.handler_chain.proofs.laws.resumes_asking.Goals as goal

pub returns : goal.returns
returns g c = resumes_asking _
