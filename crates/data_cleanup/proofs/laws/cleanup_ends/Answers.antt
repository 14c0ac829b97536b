use Rattle.data_cleanup.proofs.CleanupRecordFacts.{ends}
use Rattle.data_cleanup.proofs.laws.cleanup_ends.Goals as goal

pub returns : goal.returns
returns c = ends
