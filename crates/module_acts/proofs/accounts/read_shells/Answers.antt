use Rattle.module_acts.proofs.FileStepFacts.{reading_shells}
use Rattle.module_acts.proofs.accounts.read_shells.Goals as goal

pub returns-clause-told : goal.returns-clause-told
returns-clause-told g c = λ tells room clock act known code end rest.
    reading_shells room _ clock _ act known _ _ _ code end (rw c.bytes.ensures at (c.in_ok-content.ensures.told tells)) c.in_ok-found.ensures.found (c.in_ok-content.ensures.calls tells) rest
