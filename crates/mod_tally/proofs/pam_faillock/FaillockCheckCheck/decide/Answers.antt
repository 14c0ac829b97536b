use Rattle.mod_tally.proofs.pam_faillock.FaillockCheckCheck.decide.Goals as goal

pub returns-in-Err-clause-told : goal.returns-in-Err-clause-told
returns-in-Err-clause-told g c = λ tells clock ticks conv.
    rw (← (rw c.task_among.ensures at c.in-Err.ensures)) (c.act_steps.ensures.answers _ _ _)

pub returns-in-Ok-clause-told : goal.returns-in-Ok-clause-told
returns-in-Ok-clause-told g c = λ tells clock ticks conv.
    rw (← (rw c.task_among.ensures at c.in-Ok.ensures)) (rw c.settings_of-settings.ensures at (c.check_user.ensures.told tells clock ticks conv))
