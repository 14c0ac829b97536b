use Rattle.data_cleanup.proofs.ReplacedDataFacts.{sets_transitive}
use Rattle.data_cleanup.proofs.laws.setting_is_transitive.Goals as goal

pub returns : goal.returns
returns c = sets_transitive
