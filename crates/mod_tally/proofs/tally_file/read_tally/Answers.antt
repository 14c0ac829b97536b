use Rattle.mod_tally.proofs.tally_file.read_tally.Goals as goal

pub returns-clause-told : goal.returns-clause-told
returns-clause-told g c = λ tells room clock act known code end rest.
    c.in_ok-content.ensures.told tells _ clock _ _ _ _ (rw (← c.in_ok-found.ensures) rest)
