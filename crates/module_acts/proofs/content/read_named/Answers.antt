use Rattle.module_acts.proofs.FileStepFacts.{not_reading, reading}
use Rattle.module_acts.proofs.content.read_named.Goals as goal

pub returns-then-not-is_rooted-clause-told : goal.returns-then-not-is_rooted-clause-told
returns-then-not-is_rooted-clause-told g c = λ tells room clock act known code end rest.
    not_reading room _ clock _ _ _ act known code end (rw c.is_rooted.ensures at c.if-not-is_rooted.true) rest

pub returns-clause-told : goal.returns-clause-told
returns-clause-told g c = λ tells room clock act known code end rest.
    reading room _ clock _ _ _ act known _ _ code end (rw c.is_rooted.ensures at c.if-not-is_rooted.false) (rw c.bytes.ensures at (c.in_ok-content.ensures.told tells)) (c.in_ok-content.ensures.calls tells) rest
