use Rattle.module_acts.proofs.Talks_on.{no_data_stays}
use Rattle.module_acts.proofs.laws.no_data_are_set.Goals as goal

pub returns-clause-stays : goal.returns-clause-stays
returns-clause-stays c = no_data_stays
