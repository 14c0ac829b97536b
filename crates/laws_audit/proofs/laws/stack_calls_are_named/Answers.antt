use Rattle.laws_audit.proofs.StackNameFacts.{made_as_seen, seen_as_made}
use Rattle.laws_audit.proofs.laws.stack_calls_are_named.Goals as goal

pub returns-clause-seen : goal.returns-clause-seen
returns-clause-seen c = seen_as_made

pub returns-clause-made : goal.returns-clause-made
returns-clause-made c = made_as_seen
