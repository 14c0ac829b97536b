use Rattle.std.proofs.Common.{◌<◌, length, sym, ◌∙◌, arith}
use Rattle.std.proofs.lemmas.Option.{slice_get_within}
use Rattle.pass_replay.proofs.RecordedLineFacts.{left_visit, left_end, visit_here, no_visit_after}
use Rattle.pass_replay.proofs.told.first_left.Goals as goal

pub returns-in-Some-clause-same : goal.returns-in-Some-clause-same
returns-in-Some-clause-same c =
    visit_here c.args.told.now c.in-Some.at c.in-Some.field-0-1.now c.in-Some.ensures.at ∙ sym c.in-Some.ensures.some

pub returns-in-Some-clause-within : goal.returns-in-Some-clause-within
returns-in-Some-clause-within c =
    let within : c.in-Some.at < length c.args.told.now = slice_get_within c.args.told.now c.in-Some.at _ c.in-Some.ensures.at in
    omega arith

pub returns-in-Some-clause-left : goal.returns-in-Some-clause-left
returns-in-Some-clause-left c = left_visit c.args.told.now c.in-Some.at c.in-Some.field-0-1.now c.in-Some.ensures.at

pub returns-in-None-clause-left : goal.returns-in-None-clause-left
returns-in-None-clause-left c = left_end c.args.told.now (length c.args.told.now) (no_visit_after c.args.told.now)
