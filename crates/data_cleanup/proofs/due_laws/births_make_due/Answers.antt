use Rattle.data_cleanup.proofs.NewestFirstFacts.{law_births}
use Rattle.data_cleanup.proofs.due_laws.births_make_due.Goals as goal

pub returns : goal.returns
returns c = law_births
