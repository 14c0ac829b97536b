use Rattle.std.proofs.Common.{◌∙◌}
use Rattle.pass_replay.proofs.CodeCellFacts.{answers_more}
use Rattle.pass_replay.proofs.pass.answers_of.Goals as goal

pub loop-visit-preserved : goal.loop-visit-preserved
loop-visit-preserved c =
    c.in_ok-push.ensures.ok
    ∙ answers_more c.args.visits.now c.loop-visit.visit-index _ c.loop-visit.answers c.loop-visit-test.true c.loop-visit.invariant
