use Rattle.std.proofs.Common.{◌+◌, Option, Some, is_none, ◌∙◌, ap, subst}
use Rattle.pam_base.specs.declared.code.Code.{Code}
use Rattle.control_words.specs.Control.{action_at}
use Rattle.dispatch_core.specs.Calls.{answers_held}
use Rattle.dispatch_core.specs.Passes.{answer_in}
use Rattle.handler_chain.specs.Opinion.{acted}
use Rattle.handler_chain.specs.Pass.{PassState, decides, serving}
use Rattle.handler_chain.specs.Retell.{Telling, replaying}
use Rattle.handler_chain.specs.Route.{KeptAnswers}
use Rattle.handler_chain.specs.Walk.{ServedAs, Serving}
use Rattle.pass_replay.specs.Kept.{kept_answers}
use Rattle.pass_replay.specs.Walk.{state_in}
use Rattle.pass_replay.proofs.NodeWalkFacts.{line_goes}
use Rattle.pass_replay.proofs.walk.walk_line.Goals as goal

pub returns-clause-goes : goal.returns-clause-goes
returns-clause-goes c = λ rest counted.
    let kept : KeptAnswers = answers_held (kept_answers c.args.follows.now) in
    let serve : Serving (PassState Telling) = serving c.args.kind kept replaying in
    let at = c.args.replay.now.at + 1 in
    let old : PassState Telling = state_in c.args.past.now c.args.told.now c.args.replay.now in
    let new : PassState Telling = state_in c.args.past.now c.args.told.now c.next_answer.new.replay in
    let deciding = c.decide-deciding.ensures ∙ ap (λ n. decides c.args.kind kept (n + 1) c.in-Some.answer) c.next_answer.ensures.at in
    let served : ServedAs (serve c.args.rule.now at old) c.in-Some.answer (decides c.args.kind kept at c.in-Some.answer) (is_none (Some c.in-Some.answer)) new =
    subst (λ (a : Option Code). ServedAs (serve c.args.rule.now at old) (answer_in a) (decides c.args.kind kept at (answer_in a)) (is_none a) new)
    c.in-Some.is (c.in_ok-answer.ensures.served c.args.kind kept) in
    line_goes c.args.kind serve c.args.rule.now rest at c.args.entry c.args.opinion old new c.in-Some.answer
    (decides c.args.kind kept at c.in-Some.answer) c.action-action.result c.args.left c.after-new.result c.next_node_after.result served
    (c.action-action.ensures ∙ ap (action_at c.args.rule.now.control) deciding)
    (c.after-new.ensures ∙ ap (λ (d : Code). acted c.args.kind c.action-action.result c.in-Some.answer d c.args.entry c.args.opinion) deciding)
    counted c.next_node_after.ensures.opinion c.next_node_after.ensures.skip
