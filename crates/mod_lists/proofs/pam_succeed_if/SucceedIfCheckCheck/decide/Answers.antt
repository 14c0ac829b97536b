use Rattle.mod_lists.proofs.pam_succeed_if.SucceedIfCheckCheck.decide.Goals as goal

pub returns-clause-told : goal.returns-clause-told
returns-clause-told g c = λ tells clock ticks conv.
    rw (← c.in_ok-conditions.ensures) (c.in_ok-code.ensures.told tells conv _)
