use Rattle.data_cleanup.proofs.CleanupRecordFacts.{next_awaits, others_await}
use Rattle.data_cleanup.proofs.laws.next_awaits_cleanup.Goals as goal

pub returns-clause-next : goal.returns-clause-next
returns-clause-next c = next_awaits

pub returns-clause-others : goal.returns-clause-others
returns-clause-others c = others_await
