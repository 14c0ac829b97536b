use Rattle.std.proofs.Common.{◌≡◌, ◌≤◌, ◌+◌, ◌∷◌, ◌++◌, drop}
use Rattle.control_words.specs.Stack.{stack_of, lines_in}
use Rattle.handler_chain.specs.Flat.{positions_after}
use Rattle.handler_chain.proofs.add_list.add_positions.Given as goal

abbrev pub invariant-loop-node : goal.invariant-loop-node
invariant-loop-node l = record {
  marked : l.positions.items ++ positions_after l.position (stack_of (drop l.node-index l.node-items)) ≡ l.fn.positions.items ++ l.first ∷ positions_after l.first (stack_of l.nodes.vec.items);
  few : l.position + lines_in (stack_of (drop l.node-index l.node-items)) ≤ 4096;
}
