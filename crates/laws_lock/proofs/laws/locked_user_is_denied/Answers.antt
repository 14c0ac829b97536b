use Rattle.laws_lock.proofs.FirstGateFacts.{denied}
use Rattle.laws_lock.proofs.laws.locked_user_is_denied.Goals as goal

pub returns : goal.returns
returns c = denied c.locked_user_is_refused.ensures
