use Rattle.module_acts.specs.Act.{answers}
use Rattle.mod_tally.proofs.pam_faillock.check_tally.Goals as goal

pub returns-clause-told : goal.returns-clause-told
returns-clause-told g c = λ tells clock ticks conv known.
    (rw (c.bytes.ensures, c.bytes-2.ensures, c.in_ok-file.ensures, c.in_ok-lock.ensures, c.user_of-user.ensures) at (c.in_ok-code.ensures.told tells clock ticks conv)) answers known _ _ (c.act_steps.ensures.answers _ _ _)
