use Rattle.data_cleanup.proofs.Whole.{holds_on_end}
use Rattle.data_cleanup.proofs.due_laws.end_holds.Goals as goal

pub returns : goal.returns
returns c = holds_on_end
