use Rattle.laws_lock.proofs.Failing_often.{wrong_passwords_lock}
use Rattle.laws_lock.proofs.laws.wrong_passwords_lock.Goals as goal

pub returns : goal.returns
returns c = wrong_passwords_lock c.locked_user_is_refused.ensures c.enough_failures_lock.ensures
