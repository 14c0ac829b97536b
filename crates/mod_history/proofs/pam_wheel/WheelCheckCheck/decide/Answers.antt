use Rattle.std.proofs.Common.{◌∙◌}
use Rattle.mod_history.proofs.pam_wheel.WheelCheckCheck.decide.Goals as goal

pub returns-in-Some-clause-told : goal.returns-in-Some-clause-told
returns-in-Some-clause-told g c = λ tells clock ticks conv.
    let decided = rw (c.in-Some.is, c.user_of-user.ensures, c.passwds.ensures) at c.in_ok-decided.ensures in
    (rw c.new-accounts.ensures at (c.in_ok-read_passwds.ensures.told tells)) _ _ _ _ _
    (rw (← decided) (c.act_steps.ensures.answers _ _ _))

pub returns-clause-told : goal.returns-clause-told
returns-clause-told g c = λ tells clock ticks conv.
    let open_ = rw (c.in-None.is, c.user_of-user.ensures, c.passwds.ensures) at c.in_ok-decided.ensures in
    (rw c.new-accounts.ensures at (c.in_ok-read_passwds.ensures.told tells)) _ _ _ _ _
    (rw (← open_) (c.in_ok-read_groups-in-None.ensures.told (c.in_ok-read_passwds.ensures.tells ∙ tells) _ _ _ _ _
    (rw (c.in_ok-code-in-None.ensures, c.passwds-passwds.ensures, c.groups.ensures, c.in_ok-read_groups-in-None.ensures.passwds) (c.act_steps.ensures.answers _ _ _))))
