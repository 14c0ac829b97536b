use Rattle.data_cleanup.proofs.NewestFirstFacts.{law_end}
use Rattle.data_cleanup.proofs.due_laws.end_makes_due.Goals as goal

pub returns : goal.returns
returns c = law_end
