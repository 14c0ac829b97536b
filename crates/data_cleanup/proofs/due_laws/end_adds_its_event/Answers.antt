use Rattle.data_cleanup.proofs.Whole.{stands_on_end}
use Rattle.data_cleanup.proofs.due_laws.end_adds_its_event.Goals as goal

pub returns : goal.returns
returns c = stands_on_end
