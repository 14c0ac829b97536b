use Rattle.laws_way.proofs.ResumedCallFacts.{left_by_trace, resumed_calls, resumed_changes, resumed_updates}
use Rattle.laws_way.proofs.laws.resumed_calls_succeed_by_listed_ways.Goals as goal

pub returns-clause-pass : goal.returns-clause-pass
returns-clause-pass c = resumed_calls

pub returns-clause-change : goal.returns-clause-change
returns-clause-change c = resumed_changes

pub returns-clause-left : goal.returns-clause-left
returns-clause-left c = left_by_trace

pub returns-clause-update : goal.returns-clause-update
returns-clause-update c = resumed_updates
