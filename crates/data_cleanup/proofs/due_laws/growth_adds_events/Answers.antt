use Rattle.data_cleanup.proofs.Whole.{stands_on_growth}
use Rattle.data_cleanup.proofs.due_laws.growth_adds_events.Goals as goal

pub returns : goal.returns
returns c = stands_on_growth
