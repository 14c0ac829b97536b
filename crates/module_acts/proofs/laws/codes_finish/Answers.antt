use Rattle.module_acts.proofs.ReturnedResultFacts.{code_finishes}
use Rattle.module_acts.proofs.laws.codes_finish.Goals as goal

pub returns : goal.returns
returns c = code_finishes
