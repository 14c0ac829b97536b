use Rattle.laws_audit.proofs.LibraryStepFacts.{steps_fit}
use Rattle.laws_audit.proofs.laws.steps_fit.Goals as goal

pub returns : goal.returns
returns c = steps_fit
