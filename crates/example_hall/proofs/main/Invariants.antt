use Rattle.std.proofs.Common.{◌≡◌, length}
use Rattle.example_hall.proofs.main.Given as goal

abbrev pub invariant-loop : goal.invariant-loop
invariant-loop l = length l.convs.items ≡ l.counter
