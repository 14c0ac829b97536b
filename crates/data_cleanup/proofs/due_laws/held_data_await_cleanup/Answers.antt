use Rattle.data_cleanup.proofs.Whole.{holds_ready}
use Rattle.data_cleanup.proofs.due_laws.held_data_await_cleanup.Goals as goal

pub returns : goal.returns
returns c = holds_ready
