use Rattle.data_cleanup.proofs.Whole.{moves_on_growth}
use Rattle.data_cleanup.proofs.due_laws.growth_moves.Goals as goal

pub returns : goal.returns
returns c = moves_on_growth
