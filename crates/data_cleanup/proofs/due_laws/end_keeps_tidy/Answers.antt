use Rattle.data_cleanup.proofs.Orderly.{tidy_on_end}
use Rattle.data_cleanup.proofs.due_laws.end_keeps_tidy.Goals as goal

pub returns : goal.returns
returns c = tidy_on_end
