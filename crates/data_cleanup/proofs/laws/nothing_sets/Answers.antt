use Rattle.data_cleanup.proofs.ReplacedDataFacts.{sets_none}
use Rattle.data_cleanup.proofs.laws.nothing_sets.Goals as goal

pub returns : goal.returns
returns c = sets_none
