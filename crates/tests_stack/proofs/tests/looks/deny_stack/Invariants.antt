use Rattle.std.proofs.Common.{◌≤◌, ◌+◌}
use Rattle.control_words.specs.Stack.{lines_in, depth, stack_of}
use Rattle.tests_stack.proofs.tests.looks.deny_stack.Given as goal

abbrev pub invariant-loop : goal.invariant-loop
invariant-loop l = record {
  few : lines_in (stack_of l.nodes.vec.items) ≤ l.counter + 1;
  shallow : depth (stack_of l.nodes.vec.items) ≤ 1;
}
