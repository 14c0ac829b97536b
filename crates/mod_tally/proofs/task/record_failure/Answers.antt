use Rattle.mod_tally.proofs.task.record_failure.Goals as goal

pub returns-clause-told : goal.returns-clause-told
returns-clause-told g c = λ tells.
    rw (← c.in_ok-failure.ensures, ← c.in_ok-text.ensures, ← c.bytes.ensures) (c.in_ok-code.ensures.told tells)
