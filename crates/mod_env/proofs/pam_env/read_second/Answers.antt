use Rattle.std.proofs.Common.{◌∙◌}
use Rattle.mod_env.proofs.pam_env.read_second.Goals as goal

pub returns-then-is_zero-clause-told : goal.returns-then-is_zero-clause-told
returns-then-is_zero-clause-told g c = λ tells conv clock.
    rw (← (rw c.value.ensures at c.if-is_zero.ensures)) (rw c.no_text-nothing.ensures at (c.set_by_texts.ensures.told tells conv clock))

pub returns-clause-told : goal.returns-clause-told
returns-clause-told g c = λ tells conv clock.
    rw (← (rw c.value.ensures at c.if-is_zero.ensures)) ((rw (c.name_or-name.ensures, c.value-2.ensures) at (c.in_ok-content.ensures.told tells)) _ clock _ _ _ _
    (rw c.text_in-env.ensures at (c.in_ok-code.ensures.told (c.in_ok-content.ensures.tells ∙ tells) conv clock)))
