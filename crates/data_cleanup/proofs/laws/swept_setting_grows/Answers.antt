use Rattle.data_cleanup.proofs.ReplacedDataFacts.{sets_grow}
use Rattle.data_cleanup.proofs.laws.swept_setting_grows.Goals as goal

pub returns : goal.returns
returns c = sets_grow
