use Rattle.std.proofs.Common.{◌∙◌}
use Rattle.mod_lists.specs.Shells.{checks_login_shell}
use Rattle.mod_lists.proofs.pam_shells.ShellsCheckCheck.decide.Goals as goal

pub returns-in-Unreadable-clause-told : goal.returns-in-Unreadable-clause-told
returns-in-Unreadable-clause-told g c = λ tells clock ticks conv.
    (rw (c.new-accounts.ensures, c.in-Unreadable.is) at (c.in_ok-account.ensures.told tells)) _ _ checks_login_shell _ _ (c.act_steps.ensures.answers _ _ _)

pub returns-in-Missing-clause-told : goal.returns-in-Missing-clause-told
returns-in-Missing-clause-told g c = λ tells clock ticks conv.
    (rw (c.new-accounts.ensures, c.in-Missing.is) at (c.in_ok-account.ensures.told tells)) _ _ checks_login_shell _ _ (c.act_steps.ensures.answers _ _ _)

pub returns-clause-told : goal.returns-clause-told
returns-clause-told g c = λ tells clock ticks conv.
    (rw (c.new-accounts.ensures, c.in-Found.is) at (c.in_ok-account.ensures.told tells)) _ _ checks_login_shell _ _
    (c.in_ok-listed-in-Found.ensures.told (c.in_ok-account.ensures.tells ∙ tells) _ _ _ _ _ _
    (rw (c.list_code.ensures, c.login_shell.ensures, c.bytes.ensures) (c.act_steps.ensures.answers _ _ _)))
