use Rattle.module_acts.proofs.FileStepFacts.{freeing}
use Rattle.module_acts.proofs.content.release.Goals as goal

pub returns-clause-told : goal.returns-clause-told
returns-clause-told g c = λ tells room clock process act known code end rest.
    freeing room _ clock process _ act known code end (rw (← c.let_go.ensures.told tells) rest)
