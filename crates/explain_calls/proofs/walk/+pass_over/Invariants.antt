use Rattle.std.proofs.Common.{◌≡◌, ◌≤◌, ◌+◌, ◌++◌, drop}
use Rattle.control_words.specs.Stack.{depth, lines_in, stack_of}
use Rattle.explain_calls.specs.Rows.{rows_over}
use Rattle.explain_calls.proofs.walk.+pass_over.Given as goal

abbrev pub decreases-pass_over : goal.decreases-pass_over
decreases-pass_over l = depth (stack_of l.nodes.now)

abbrev pub invariant-loop-node : goal.invariant-loop-node
invariant-loop-node l = record {
  counted : l.last + lines_in (stack_of (drop l.node-index l.nodes)) ≡ l.at + lines_in (stack_of l.nodes);
  shallow : depth (stack_of (drop l.node-index l.nodes)) ≤ depth (stack_of l.nodes);
  shown : l.shown ++ rows_over l.why (l.last + 1) (stack_of (drop l.node-index l.nodes)) ≡ l.fn.shown ++ rows_over l.why (l.at + 1) (stack_of l.nodes);
}
