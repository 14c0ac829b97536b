use Rattle.data_cleanup.proofs.Exact.{all_filed}
use Rattle.data_cleanup.proofs.due_laws.all_are_filed.Goals as goal

pub returns : goal.returns
returns c = all_filed
