use Rattle.mod_history.specs.Securetty.{looks_up_terminal}
use Rattle.mod_history.proofs.pam_securetty.check_root.Goals as goal

pub returns-in-None-clause-told : goal.returns-in-None-clause-told
returns-in-None-clause-told g c = λ tells conv clock known.
    let steps = c.act_steps.ensures in
    steps.seeing (λ items. looks_up_terminal items.tty) known _ _ _ (rw (← c.in-None.ensures) (steps.answers _ _ _))

pub returns-in_ok-list-in-Some-clause-told : goal.returns-in_ok-list-in-Some-clause-told
returns-in_ok-list-in-Some-clause-told g c = λ tells conv clock known.
    let steps = c.act_steps.ensures in
    steps.seeing (λ items. looks_up_terminal items.tty) known _ _ _ (rw (← c.in-Some.ensures)
    (c.in_ok-list-in-Some.ensures.told tells _ clock _ _ _ _
    (rw (c.terminal_code.ensures, c.terminal_name.ensures) (steps.answers _ _ _))))
