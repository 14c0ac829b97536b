use Rattle.dispatch_core.proofs.LinePathFacts.{Shared}
use Rattle.dispatch_core.proofs.paths.Paths.of.Given as goal

abbrev pub invariant-loop-i : goal.invariant-loop-i
invariant-loop-i l = Shared l.chain.nodes l.texts.items l.i
