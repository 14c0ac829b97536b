use Rattle.std.proofs.Common.{◌≤◌, length, refl, rules}
use Rattle.std.proofs.lemmas.Option.{slice_get_past, slice_get_read}
use Rattle.pass_replay.proofs.ReplayedLineFacts.{asked, given}
use Rattle.pass_replay.proofs.replay.next_answer.Goals as goal

pub returns-in-Some-clause-served : goal.returns-in-Some-clause-served
returns-in-Some-clause-served c = λ kind kept.
    given kind kept c.args.rule.now c.args.past.now c.args.told.now c.args.replay.now c.visit.new.replay c.in-Some.answer.now
    (slice_get_read c.args.past.now (length c.args.past.now) c.args.replay.now.used c.in-Some.answer.now refl
    c.in-Some.ensures.lookup.3.0 c.in-Some.ensures.lookup.1)
    c.in_ok-visit.ensures.added

pub returns-clause-served : goal.returns-clause-served
returns-clause-served c = λ kind kept.
    let none_left : length c.args.past.now ≤ c.args.replay.now.used = c.in_default.ensures.lookup.3 in
    asked kind kept c.args.rule.now c.args.past.now c.args.told.now c.args.replay.now c.ask-answer.new.replay c.visit-2.new.replay
    c.ask-answer.result (slice_get_past c.args.past.now c.args.replay.now.used none_left) c.ask-answer.ensures.answers
    c.ask-answer.ensures.same (search rules) c.in_ok-visit-2.ensures.added
