use Rattle.std.proofs.Common.{◌∙◌}
use Rattle.mod_tally.specs.Faillock.{task_if_readable}
use Rattle.mod_tally.specs.Settings.{plain_settings}
use Rattle.mod_tally.proofs.pam_faillock.task_on_file.Goals as goal

pub returns-in_ok-code-in-Some-clause-told : goal.returns-in_ok-code-in-Some-clause-told
returns-in_ok-code-in-Some-clause-told g c = λ tells clock ticks conv act known code end rest.
    let read = rw c.in-Some.is at (c.in_ok-failures.ensures.told tells) in
    let done = c.in_ok-code-in-Some.ensures.told (c.in_ok-failures.ensures.tells ∙ tells) clock ticks conv act known code end rest in
    read _ _ (task_if_readable c.args.job.now.task (plain_settings c.args.job.now.settings) c.args.job.now.file.now c.args.job.now.lock.now act) known _ _ done

pub returns-in-None-clause-told : goal.returns-in-None-clause-told
returns-in-None-clause-told g c = λ tells clock ticks conv act known code end rest.
    let read = rw c.in-None.is at (c.in_ok-failures.ensures.told tells) in
    read _ _ (task_if_readable c.args.job.now.task (plain_settings c.args.job.now.settings) c.args.job.now.file.now c.args.job.now.lock.now act) known _ _ rest
