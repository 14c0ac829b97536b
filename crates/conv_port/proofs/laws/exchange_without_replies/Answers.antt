use Rattle.conv_port.proofs.NoReplyFacts.{again, gone, waiting, never_gone}
use Rattle.conv_port.proofs.laws.exchange_without_replies.Goals as goal

pub returns-clause-again : goal.returns-clause-again
returns-clause-again c = again

pub returns-clause-gone : goal.returns-clause-gone
returns-clause-gone c = gone

pub returns-clause-waiting : goal.returns-clause-waiting
returns-clause-waiting c = waiting

pub returns-clause-never_gone : goal.returns-clause-never_gone
returns-clause-never_gone c = never_gone
