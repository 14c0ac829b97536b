use Rattle.std.proofs.Common.{◌≡◌, ◌≤◌, ◌+◌, drop}
use Rattle.control_words.specs.Stack.{stack_of, lines_in, depth}
use Rattle.handler_chain.proofs.line_count.+line_count.Given as goal

abbrev pub decreases-line_count : goal.decreases-line_count
decreases-line_count l = depth (stack_of l.nodes.now.vec.items)

abbrev pub invariant-loop-node : goal.invariant-loop-node
invariant-loop-node l = record {
  counted : l.count + lines_in (stack_of (drop l.node-index l.node-items)) ≡ lines_in (stack_of l.nodes.vec.items);
  shallow : depth (stack_of (drop l.node-index l.node-items)) ≤ depth (stack_of l.nodes.vec.items);
}
