use Rattle.data_cleanup.proofs.ReplacedDataFacts.{sets_await}
use Rattle.data_cleanup.proofs.laws.set_data_await_cleanup.Goals as goal

pub returns : goal.returns
returns c = sets_await
