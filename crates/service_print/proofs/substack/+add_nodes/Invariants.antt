use Rattle.std.proofs.Common.{drop}
use Rattle.control_words.specs.Stack.{stack_of, depth}
use Rattle.service_print.proofs.PrintedNodeFacts.{IsAdding}
use Rattle.service_print.proofs.substack.+add_nodes.Given as goal

abbrev pub decreases-add_nodes : goal.decreases-add_nodes
decreases-add_nodes l = depth (stack_of l.nodes.now.vec.items)

abbrev pub invariant-loop-node : goal.invariant-loop-node
invariant-loop-node l =
    IsAdding l.service l.rule_type (stack_of l.nodes.vec.items) l.fn.text.items l.fn.files.items (stack_of (drop l.node-index l.node-items)) l.text.items l.files.items
