use Rattle.data_cleanup.proofs.CleanupRecordFacts.{goes_on}
use Rattle.data_cleanup.proofs.laws.cleanup_goes_on.Goals as goal

pub returns : goal.returns
returns c = goes_on
