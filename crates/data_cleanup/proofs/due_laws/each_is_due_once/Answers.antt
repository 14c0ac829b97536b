use Rattle.data_cleanup.proofs.Once.{once_due}
use Rattle.data_cleanup.proofs.due_laws.each_is_due_once.Goals as goal

pub returns : goal.returns
returns c = once_due
