use Rattle.data_cleanup.proofs.Whole.{stands_at_first}
use Rattle.data_cleanup.proofs.due_laws.nothing_has_no_events.Goals as goal

pub returns : goal.returns
returns c = stands_at_first
