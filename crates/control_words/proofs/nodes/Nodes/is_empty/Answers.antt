use Rattle.control_words.proofs.NodeListFacts.{count-stack_of}
use Rattle.control_words.proofs.nodes.Nodes.is_empty.Goals as goal

pub returns : goal.returns
returns c = rw (count-stack_of, ← c.items.ensures) c.is_empty.ensures
