use Rattle.data_cleanup.proofs.Whole.{holds_on_growth}
use Rattle.data_cleanup.proofs.due_laws.growth_holds.Goals as goal

pub returns : goal.returns
returns c = holds_on_growth
