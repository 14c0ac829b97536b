use Rattle.data_cleanup.proofs.CleanupRecordFacts.{begins}
use Rattle.data_cleanup.proofs.laws.cleanup_begins.Goals as goal

pub returns : goal.returns
returns c = begins
