use Rattle.std.proofs.Common.{◌≡◌, ◌≤◌, ◌++◌, drop}
use Rattle.control_words.specs.Stack.{depth, stack_of}
use Rattle.ways_lines.specs.Rows.{rows_of}
use Rattle.ways_lines.proofs.row.+add_rows.Given as goal

abbrev pub decreases-add_rows : goal.decreases-add_rows
decreases-add_rows l = depth (stack_of l.nodes.now)

abbrev pub invariant-loop-node : goal.invariant-loop-node
invariant-loop-node l = record {
  shallow : depth (stack_of (drop l.node-index l.nodes)) ≤ depth (stack_of l.nodes);
  so_far : l.rows ++ rows_of (stack_of (drop l.node-index l.nodes)) ≡ l.fn.rows ++ rows_of (stack_of l.nodes);
}
