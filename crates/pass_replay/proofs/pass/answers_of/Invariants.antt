use Rattle.std.proofs.Common.{◌≡◌, take}
use Rattle.handler_chain.specs.Pass.{answers_of}
use Rattle.pass_replay.specs.Kept.{visits_of}
use Rattle.pass_replay.proofs.pass.answers_of.Given as goal

abbrev pub invariant-loop-visit : goal.invariant-loop-visit
invariant-loop-visit l = l.answers ≡ answers_of (visits_of (take l.visit-index l.visits))
