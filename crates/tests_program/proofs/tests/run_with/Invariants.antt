use Rattle.std.proofs.Common.{◌≡◌, length}
use Rattle.tests_program.proofs.tests.run_with.Given as goal

abbrev pub invariant-loop : goal.invariant-loop
invariant-loop g l = length l.convs.items ≡ l.counter
