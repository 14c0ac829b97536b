use Rattle.laws_lock.proofs.Failing_often.{enough_failures_lock}
use Rattle.laws_lock.proofs.laws.enough_failures_lock.Goals as goal

pub returns : goal.returns
returns c = enough_failures_lock c.recorded_failures_are_kept.ensures.all
