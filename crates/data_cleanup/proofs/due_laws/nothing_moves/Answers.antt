use Rattle.data_cleanup.proofs.Whole.{moves_nowhere}
use Rattle.data_cleanup.proofs.due_laws.nothing_moves.Goals as goal

pub returns : goal.returns
returns c = moves_nowhere
