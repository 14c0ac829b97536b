use Rattle.laws_lock.proofs.LockedUserFacts.{locked_is_refused}
use Rattle.laws_lock.proofs.laws.locked_user_is_refused.Goals as goal

pub returns : goal.returns
returns c = locked_is_refused
