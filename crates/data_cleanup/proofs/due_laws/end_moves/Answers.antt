use Rattle.data_cleanup.proofs.Whole.{moves_on_end}
use Rattle.data_cleanup.proofs.due_laws.end_moves.Goals as goal

pub returns : goal.returns
returns c = moves_on_end
