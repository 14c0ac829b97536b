use Rattle.std.proofs.Common.{◌≡◌, map, take}
use Rattle.tests_stack.proofs.tests.looks.names_in.Given as goal

abbrev pub invariant-loop-handler : goal.invariant-loop-handler
invariant-loop-handler g l = l.names ≡ map (λ b. (goal.Module-dyn g (b.vtable, b.value)).label b.value) (take l.handler-index l.mods)
