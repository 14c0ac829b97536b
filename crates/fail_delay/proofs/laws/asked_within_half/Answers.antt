use Rattle.fail_delay.proofs.DelaySpreadFacts.{word_for}
use Rattle.fail_delay.proofs.laws.asked_within_half.Goals as goal

pub returns-clause-each : goal.returns-clause-each
returns-clause-each c = word_for
