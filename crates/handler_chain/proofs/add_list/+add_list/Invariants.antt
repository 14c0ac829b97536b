use Rattle.std.proofs.Common.{drop}
use Rattle.control_words.specs.Stack.{stack_of, depth}
use Rattle.handler_chain.proofs.AddedNodeFacts.{IsAdding}
use Rattle.handler_chain.proofs.add_list.+add_list.Given as goal

abbrev pub decreases-add_list : goal.decreases-add_list
decreases-add_list l = depth (stack_of l.nodes.now.vec.items)

abbrev pub invariant-loop-node : goal.invariant-loop-node
invariant-loop-node l =
    IsAdding l.names l.level l.fn.opens (stack_of l.nodes.vec.items) l.fn.lines.items l.fn.positions.items (stack_of (drop l.node-index l.node-items)) l.lines.items l.positions.items l.past_end l.opens l.left
