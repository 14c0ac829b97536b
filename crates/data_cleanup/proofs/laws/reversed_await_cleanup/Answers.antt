use Rattle.data_cleanup.proofs.CleanupRecordFacts.{await_reverse, newest_first}
use Rattle.data_cleanup.proofs.laws.reversed_await_cleanup.Goals as goal

pub returns-clause-reversed : goal.returns-clause-reversed
returns-clause-reversed c = await_reverse

pub returns-clause-newest : goal.returns-clause-newest
returns-clause-newest c = newest_first
