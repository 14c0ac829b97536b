use Rattle.pass_replay.proofs.CodeCellFacts.{kept_more}
use Rattle.pass_replay.proofs.answers.Answers.of.Goals as goal

pub loop-visit-preserved : goal.loop-visit-preserved
loop-visit-preserved c = λ place.
    kept_more c.args.visits.now c.loop-visit.visit-index _ c.loop-visit.cells.items c.keep_first.new.cells.items place
    c.loop-visit-test.true c.loop-visit.invariant c.in_ok-keep_first.ensures.kept c.in_ok-keep_first.ensures.others
