use Rattle.std.proofs.Common.{length, ap}
use Rattle.control_words.proofs.NodeListFacts.{count-stack_of}
use Rattle.control_words.proofs.nodes.Nodes.len.Goals as goal

pub returns-clause-counted : goal.returns-clause-counted
returns-clause-counted c = rw count-stack_of (ap length c.items.ensures)
