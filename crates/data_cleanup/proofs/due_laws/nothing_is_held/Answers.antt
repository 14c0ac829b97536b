use Rattle.data_cleanup.proofs.Whole.{holds_at_first}
use Rattle.data_cleanup.proofs.due_laws.nothing_is_held.Goals as goal

pub returns : goal.returns
returns c = holds_at_first
