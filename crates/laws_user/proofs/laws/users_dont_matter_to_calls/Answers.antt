use Rattle.laws_user.proofs.AlikeCallFacts.{calls_alike}
use Rattle.laws_user.proofs.OwnEntryCallFacts.{writes_own}
use Rattle.laws_user.proofs.laws.users_dont_matter_to_calls.Goals as goal

pub returns-clause-same : goal.returns-clause-same
returns-clause-same c = calls_alike

pub returns-clause-others : goal.returns-clause-others
returns-clause-others c = writes_own c.ends_leave_it.ensures
