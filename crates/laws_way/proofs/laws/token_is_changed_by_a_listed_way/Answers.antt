use Rattle.laws_way.proofs.TokenChangeFacts.{failed_check_ends, left_in, token_changed, token_updated}
use Rattle.laws_way.proofs.laws.token_is_changed_by_a_listed_way.Goals as goal

pub returns-clause-changed : goal.returns-clause-changed
returns-clause-changed g c = token_changed _

pub returns-clause-failed : goal.returns-clause-failed
returns-clause-failed g c = failed_check_ends _

pub returns-clause-left : goal.returns-clause-left
returns-clause-left g c = left_in _

pub returns-clause-resumed : goal.returns-clause-resumed
returns-clause-resumed g c = token_updated _
