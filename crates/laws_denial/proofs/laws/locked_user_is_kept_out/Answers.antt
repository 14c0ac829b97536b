use Rattle.laws_denial.proofs.AuthenticateCodeFacts.{not_authenticated}
use Rattle.laws_denial.proofs.Keeping_out.{kept_out}
use Rattle.laws_denial.proofs.laws.locked_user_is_kept_out.Goals as goal

pub returns-clause-run : goal.returns-clause-run
returns-clause-run c = kept_out

pub returns-clause-call : goal.returns-clause-call
returns-clause-call c = not_authenticated c.ends_leave_it.ensures
