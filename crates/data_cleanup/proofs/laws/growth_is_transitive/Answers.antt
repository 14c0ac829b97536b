use Rattle.data_cleanup.proofs.GrowthFacts.{grows_transitive}
use Rattle.data_cleanup.proofs.laws.growth_is_transitive.Goals as goal

pub returns : goal.returns
returns c = grows_transitive
