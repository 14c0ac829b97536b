use Rattle.pam_room.proofs.SetDataFacts.{set_sets, set_handle}
use Rattle.pam_room.proofs.laws.set_data_are_sets.Goals as goal

pub returns-clause-sets : goal.returns-clause-sets
returns-clause-sets c = set_sets

pub returns-clause-handle : goal.returns-clause-handle
returns-clause-handle c = set_handle
