use Rattle.data_cleanup.proofs.GrowthFacts.{grows_none}
use Rattle.data_cleanup.proofs.laws.nothing_grows.Goals as goal

pub returns : goal.returns
returns c = grows_none
