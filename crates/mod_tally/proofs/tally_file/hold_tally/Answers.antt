use Rattle.mod_tally.proofs.tally_file.hold_tally.Goals as goal

pub returns-clause-told : goal.returns-clause-told
returns-clause-told g c = λ tells. c.in_ok-held.ensures.told tells
