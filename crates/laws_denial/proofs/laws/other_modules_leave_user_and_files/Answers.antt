use Rattle.laws_denial.proofs.Others.{others_leave}
use Rattle.laws_denial.proofs.laws.other_modules_leave_user_and_files.Goals as goal

pub returns : goal.returns
returns c = others_leave
