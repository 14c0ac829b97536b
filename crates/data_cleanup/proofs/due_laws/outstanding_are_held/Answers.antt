use Rattle.data_cleanup.proofs.Exact.{unfiled_held}
use Rattle.data_cleanup.proofs.due_laws.outstanding_are_held.Goals as goal

pub returns : goal.returns
returns c = unfiled_held
