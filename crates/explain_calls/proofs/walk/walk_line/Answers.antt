use Rattle.std.proofs.Common.{◌≡◌, ◌+◌, Option, Some, true, is_none, sym, ◌∙◌, ap, subst}
use Rattle.pam_base.specs.declared.code.Code.{Code}
use Rattle.control_words.specs.Control.{action_at}
use Rattle.pass_replay.specs.dispatch_core.specs.Calls.{answers_held}
use Rattle.pass_replay.specs.dispatch_core.specs.Passes.{answer_in}
use Rattle.handler_chain.specs.Opinion.{acted}
use Rattle.handler_chain.specs.Pass.{PassState, decides, serving}
use Rattle.handler_chain.specs.Retell.{Telling, replaying}
use Rattle.handler_chain.specs.Route.{KeptAnswers}
use Rattle.handler_chain.specs.Walk.{ServedAs, Serving, next_of}
use Rattle.pass_replay.specs.Kept.{kept_answers}
use Rattle.pass_replay.specs.Walk.{state_in}
use Rattle.pass_replay.proofs.NodeWalkFacts.{line_goes}
use Rattle.explain_lines.specs.declared.row.Fate.TheVariants.{Ran, Waits}
use Rattle.explain_lines.specs.Rows.{row_of}
use Rattle.explain_calls.specs.Rows.{why_by}
use Rattle.explain_calls.proofs.WalkRowFacts.{runs, waits}
use Rattle.explain_calls.proofs.walk.walk_line.Goals as goal

pub returns-in_default-clause-shows : goal.returns-in_default-clause-shows
returns-in_default-clause-shows c = λ rest counted.
    let kept : KeptAnswers = answers_held (kept_answers c.args.run.follows.now) in
    let serve : Serving (PassState Telling) = serving c.args.run.kind kept replaying in
    let at = c.args.replay.now.at + 1 in
    let old : PassState Telling = state_in c.args.run.past.now c.args.run.told.now c.args.replay.now in
    let served = c.in_ok-answer.ensures.served c.args.run.kind kept in
    let stopped : (serve c.args.rule.now at old).stopped ≡ true = sym served.stopped_is ∙ ap is_none c.in_default.is in
    let made = c.in_ok-of.ensures ∙ ap (λ n. row_of (n + 1) c.args.rule.now Waits) c.next_answer.ensures.at in
    waits c.args.run.kind serve c.args.rule.now rest at c.args.entry c.args.opinion old c.args.why _ c.args.shown.now _ stopped made c.in_ok-push.ensures.ok

pub returns-clause-goes : goal.returns-clause-goes
returns-clause-goes c = λ rest counted.
    let kept : KeptAnswers = answers_held (kept_answers c.args.run.follows.now) in
    let serve : Serving (PassState Telling) = serving c.args.run.kind kept replaying in
    let at = c.args.replay.now.at + 1 in
    let old : PassState Telling = state_in c.args.run.past.now c.args.run.told.now c.args.replay.now in
    let new : PassState Telling = state_in c.args.run.past.now c.args.run.told.now c.next_answer.new.replay in
    let deciding = c.decide-deciding.ensures ∙ ap (λ n. decides c.args.run.kind kept (n + 1) c.in-Some.answer) c.next_answer.ensures.at in
    let served : ServedAs (serve c.args.rule.now at old) c.in-Some.answer (decides c.args.run.kind kept at c.in-Some.answer)
    (is_none (Some c.in-Some.answer)) new =
    subst (λ (a : Option Code). ServedAs (serve c.args.rule.now at old) (answer_in a) (decides c.args.run.kind kept at (answer_in a)) (is_none a) new)
    c.in-Some.is (c.in_ok-answer.ensures.served c.args.run.kind kept) in
    line_goes c.args.run.kind serve c.args.rule.now rest at c.args.entry c.args.opinion old new c.in-Some.answer
    (decides c.args.run.kind kept at c.in-Some.answer) c.action-action.result c.args.left c.after-new.result c.next_node_after-onward.result served
    (c.action-action.ensures ∙ ap (action_at c.args.rule.now.control) deciding)
    (c.after-new.ensures ∙ ap (λ (d : Code). acted c.args.run.kind c.action-action.result c.in-Some.answer d c.args.entry c.args.opinion) deciding)
    counted c.next_node_after-onward.ensures.opinion c.next_node_after-onward.ensures.skip

pub returns-clause-shows : goal.returns-clause-shows
returns-clause-shows c = λ rest counted.
    let kept : KeptAnswers = answers_held (kept_answers c.args.run.follows.now) in
    let serve : Serving (PassState Telling) = serving c.args.run.kind kept replaying in
    let at = c.args.replay.now.at + 1 in
    let old : PassState Telling = state_in c.args.run.past.now c.args.run.told.now c.args.replay.now in
    let new : PassState Telling = state_in c.args.run.past.now c.args.run.told.now c.next_answer.new.replay in
    let deciding = c.decide-deciding.ensures ∙ ap (λ n. decides c.args.run.kind kept (n + 1) c.in-Some.answer) c.next_answer.ensures.at in
    let served : ServedAs (serve c.args.rule.now at old) c.in-Some.answer (decides c.args.run.kind kept at c.in-Some.answer)
    (is_none (Some c.in-Some.answer)) new =
    subst (λ (a : Option Code). ServedAs (serve c.args.rule.now at old) (answer_in a) (decides c.args.run.kind kept at (answer_in a)) (is_none a) new)
    c.in-Some.is (c.in_ok-answer.ensures.served c.args.run.kind kept) in
    let made = c.in_ok-of-2.ensures
    ∙ ap (λ n. row_of (n + 1) c.args.rule.now (Ran c.in-Some.answer c.decide-deciding.result c.action-action.result c.next_node_after-onward.result.opinion))
    c.next_answer.ensures.at
    ∙ ap (λ (d : Code). row_of at c.args.rule.now (Ran c.in-Some.answer d c.action-action.result c.next_node_after-onward.result.opinion)) deciding in
    let why = c.why_after.ensures ∙ ap (λ n. why_by (next_of c.action-action.result c.args.left c.after-new.result) (n + 1)) c.next_answer.ensures.at in
    runs c.args.run.kind serve c.args.rule.now rest at c.args.entry c.args.opinion old new c.args.why c.in-Some.answer
    (decides c.args.run.kind kept at c.in-Some.answer) c.action-action.result c.args.left c.after-new.result
    (record { opinion = c.next_node_after-onward.result.opinion; skip = c.next_node_after-onward.result.skip; why = c.why_after.result }) _
    c.args.shown.now _ served
    (c.action-action.ensures ∙ ap (action_at c.args.rule.now.control) deciding)
    (c.after-new.ensures ∙ ap (λ (d : Code). acted c.args.run.kind c.action-action.result c.in-Some.answer d c.args.entry c.args.opinion) deciding)
    counted c.next_node_after-onward.ensures.opinion c.next_node_after-onward.ensures.skip why made c.in_ok-push-2.ensures.ok
