use Rattle.std.proofs.Common.{◌≡◌, ℕ, take}
use Rattle.handler_chain.specs.Pass.{kept_in}
use Rattle.pass_replay.specs.Kept.{answers_in, visits_of}
use Rattle.pass_replay.proofs.answers.Answers.of.Given as goal

abbrev pub invariant-loop-visit : goal.invariant-loop-visit
invariant-loop-visit l = (place : ℕ) → answers_in l.cells.items place ≡ kept_in (visits_of (take l.visit-index l.visits)) place
