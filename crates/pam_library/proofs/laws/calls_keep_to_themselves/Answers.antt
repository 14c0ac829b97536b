use Rattle.pam_library.proofs.IsolatedCallFacts.{own_call, other_call}
use Rattle.pam_library.proofs.laws.calls_keep_to_themselves.Goals as goal

pub returns-clause-own : goal.returns-clause-own
returns-clause-own c = own_call

pub returns-clause-other : goal.returns-clause-other
returns-clause-other c = other_call
