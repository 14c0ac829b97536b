use Rattle.handler_chain.proofs.PathLaws.{follows_keep}
use Rattle.handler_chain.proofs.laws.follows_keep.Goals as goal

pub returns : goal.returns
returns g c = follows_keep _
