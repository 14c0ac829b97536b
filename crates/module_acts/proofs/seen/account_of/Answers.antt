use Rattle.module_acts.proofs.seen.account_of.Goals as goal

pub returns-clause-told : goal.returns-clause-told
returns-clause-told g c = λ tells room clock act code end rest.
    c.in_ok-read_passwds.ensures.told tells _ clock _ _ _ (rw (c.in_ok-account.ensures, c.user_of.ensures) at rest)
