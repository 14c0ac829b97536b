use Rattle.std.proofs.Common.{◌≡◌, ◌≤◌, ◌+◌, drop}
use Rattle.control_words.specs.Stack.{depth, lines_in, stack_of}
use Rattle.pass_replay.proofs.walk.+line_count.Given as goal

abbrev pub decreases-line_count : goal.decreases-line_count
decreases-line_count l = depth (stack_of l.nodes.now.vec.items)

abbrev pub invariant-loop-node : goal.invariant-loop-node
invariant-loop-node l = record {
  counted : l.lines + lines_in (stack_of (drop l.node-index l.node-items)) ≡ lines_in (stack_of l.nodes.vec.items);
  shallow : depth (stack_of (drop l.node-index l.node-items)) ≤ depth (stack_of l.nodes.vec.items);
}
