use Rattle.mod_tally.specs.Faillock.{write_result}
use Rattle.mod_tally.proofs.tally_file.set_text.Goals as goal

pub returns-then-not-can_be_set-clause-told : goal.returns-then-not-can_be_set-clause-told
returns-then-not-can_be_set-clause-told g c = λ tells room clock act known code end rest.
    rw (← c.can_be_set.ensures, c.if-not-can_be_set.true) rest

pub returns-clause-told : goal.returns-clause-told
returns-clause-told g c = λ tells room clock act known code end rest.
    rw (← c.can_be_set.ensures, c.if-not-can_be_set.false) (c.in_ok-done.ensures.told tells room clock (λ done. act (write_result c.args.code done)) known _ _ (rw (← c.write_result.ensures) rest))
