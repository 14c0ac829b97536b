-- What is decided for the user is what the module does.
use Rattle.std.proofs.Common.{◌≡◌, Result, Ok, Err, refl}
use Rattle.pam_base.specs.declared.code.Code.{Code}
use Rattle.module_acts.specs.Act.{asks_user, unless_answered}
use Rattle.mod_tally.specs.declared.settings.Task.{Task}
use Rattle.mod_tally.specs.Settings.{PlainSettings}
use Rattle.mod_tally.specs.Faillock.{task_or_code, for_user, refused}

pub by_task_asked : (task : Result Task Code) (s : PlainSettings) → unless_answered (refused task) (asks_user (for_user task s)) ≡ task_or_code task s
by_task_asked (Err code) s = refl
by_task_asked (Ok task) s = refl
