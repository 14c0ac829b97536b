use Rattle.data_cleanup.proofs.ReplacedDataFacts.{sets_one}
use Rattle.data_cleanup.proofs.laws.one_birth_sets.Goals as goal

pub returns : goal.returns
returns c = sets_one
