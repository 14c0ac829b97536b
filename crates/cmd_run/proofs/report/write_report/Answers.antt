use Rattle.std.proofs.Common.{refl}
use Rattle.cmd_run.proofs.report.write_report.Goals as goal

pub returns-in-Err-clause-told : goal.returns-in-Err-clause-told
returns-in-Err-clause-told g c = λ sink. refl

pub returns-in-Ok-write_all-clause-told : goal.returns-in-Ok-write_all-clause-told
returns-in-Ok-write_all-clause-told g c = λ sink. rw (c.bytes.ensures, c.in-Ok.ensures) at (c.in-Ok-write_all.ensures.told sink)

pub returns-clause-told : goal.returns-clause-told
returns-clause-told g c = λ sink. (c.in-Err-write_all.field-0, rw (c.bytes.ensures, c.in-Ok.ensures) at (c.in-Err-write_all.ensures.told sink))
