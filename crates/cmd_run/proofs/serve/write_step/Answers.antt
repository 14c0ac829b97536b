use Rattle.std.proofs.Common.{refl}
use Rattle.cmd_run.proofs.serve.write_step.Goals as goal

pub returns-in-Err-clause-told : goal.returns-in-Err-clause-told
returns-in-Err-clause-told g c = λ sink. refl

pub returns-in-Ok-clause-told : goal.returns-in-Ok-clause-told
returns-in-Ok-clause-told g c = λ sink. rw c.in-Ok.ensures at (c.write_report.ensures.told sink)
