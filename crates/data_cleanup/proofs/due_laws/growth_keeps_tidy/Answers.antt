use Rattle.data_cleanup.proofs.Orderly.{tidy_on_growth}
use Rattle.data_cleanup.proofs.due_laws.growth_keeps_tidy.Goals as goal

pub returns : goal.returns
returns c = tidy_on_growth
