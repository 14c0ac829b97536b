use Rattle.data_cleanup.proofs.Orderly.{stand_latest}
use Rattle.data_cleanup.proofs.due_laws.held_data_are_latest.Goals as goal

pub returns : goal.returns
returns c = stand_latest
