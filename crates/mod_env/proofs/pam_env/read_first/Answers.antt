use Rattle.std.proofs.Common.{◌∙◌}
use Rattle.mod_env.proofs.pam_env.read_first.Goals as goal

pub returns-in-None-clause-told : goal.returns-in-None-clause-told
returns-in-None-clause-told g c = λ tells conv clock.
    (rw (c.name_or-name.ensures, c.value.ensures) at (c.in_ok-content.ensures.told tells)) _ clock _ _ _ _
    (rw (← c.in-None.ensures) (c.act_steps.ensures.answers _ _ _))

pub returns-in_ok-code-in-Some-clause-told : goal.returns-in_ok-code-in-Some-clause-told
returns-in_ok-code-in-Some-clause-told g c = λ tells conv clock.
    (rw (c.name_or-name.ensures, c.value.ensures) at (c.in_ok-content.ensures.told tells)) _ clock _ _ _ _
    (rw (← c.in-Some.ensures) (rw c.bytes.ensures at (c.in_ok-code-in-Some.ensures.told (c.in_ok-content.ensures.tells ∙ tells) conv clock)))
