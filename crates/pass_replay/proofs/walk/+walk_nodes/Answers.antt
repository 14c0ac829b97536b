use Rattle.std.proofs.Common.{◌≡◌, ◌<◌, ◌≤◌, ◌+◌, ◌-◌, Option, IfSome, drop, refl, arith, ap, ◌∙◌, subst}
use Rattle.control_words.specs.Stack.{Stack, count, depth, line, lines_in, stack_of}
use Rattle.dispatch_core.specs.Calls.{answers_held}
use Rattle.handler_chain.specs.declared.opinion.Opinion.{Opinion}
use Rattle.handler_chain.specs.Pass.{PassState, serving}
use Rattle.handler_chain.specs.Retell.{Telling, replaying}
use Rattle.handler_chain.specs.Walk.{Serving, walk}
use Rattle.pass_replay.specs.Kept.{kept_answers}
use Rattle.pass_replay.specs.declared.next_node.NextNode.{NextNode}
use Rattle.pass_replay.specs.Walk.{WalkEnds, after_line, state_in}
use Rattle.pass_replay.proofs.RestOfStackFacts.{few_there, peeled, peeled_line, peeled_sub, some_left}
use Rattle.pass_replay.proofs.NodeWalkFacts.{sub_put_off, walking_line, walking_skip, walking_sub}
use Rattle.pass_replay.proofs.walk.+walk_nodes.Goals as goal
use Rattle.pass_replay.proofs.walk.+walk_nodes.Goals.{then-skip-gt0, else-skip-gt0+in-Line+in_ok-onward-in-Line+in-Some}
use Rattle.pass_replay.proofs.walk.+walk_nodes.Goals.{else-skip-gt0+in-Sub+in_ok-inside-in-Sub+in-Some-2}

pub overflow_sub-left : goal.overflow_sub-left
overflow_sub-left t c = some_left _ _ _ _ c.loop-node-test.true c.node-item.is c.loop-node.invariant.counted

pub lines_of-requires : goal.lines_of-requires
lines_of-requires t c =
    let few = few_there _ _ _ _ _ c.loop-node-test.true c.node-item.is c.loop-node.invariant.placed c.requires.few in
    record { few = omega (arith, few) }

pub overflow_add-replay : goal.overflow_add-replay
overflow_add-replay t c =
    let few = few_there _ _ _ _ _ c.loop-node-test.true c.node-item.is c.loop-node.invariant.placed c.requires.few in
    omega (arith, few, c.lines_of.ensures)

pub walk_nodes-requires : goal.walk_nodes-requires
walk_nodes-requires t c =
    let here = peeled_sub _ _ _ _ c.loop-node-test.true c.node-item.is c.in-Sub.is in
    let falls : depth (stack_of c.in-Sub.inner.vec.items) < t = omega (arith, ap depth here, c.loop-node.invariant.shallow, c.decreases) in
    let few : c.loop-node.replay.at + lines_in (stack_of c.in-Sub.inner.vec.items) ≤ 4096 =
    omega (arith, ap lines_in here, c.loop-node.invariant.placed, c.requires.few) in
    (falls, few)

pub returns-in_default-2-clause-comes : goal.returns-in_default-2-clause-comes
returns-in_default-2-clause-comes t c =
    let none_over : c.loop-node.skip ≡ 0 = omega arith in
    let here = peeled_sub _ _ _ _ c.loop-node-test.true c.node-item.is c.in-Sub.is in
    let serve : Serving (PassState Telling) = serving c.args.kind (answers_held (kept_answers c.args.follows.now)) replaying in
    let inside = walk c.args.kind serve 0 (stack_of c.in-Sub.inner.vec.items) (c.loop-node.replay.at + 1) c.loop-node.opinion c.loop-node.opinion
    (state_in c.args.past.now c.args.told.now c.loop-node.replay) in
    let comes = subst (λ (end : Option Opinion). WalkEnds inside end (state_in c.args.past.now c.args.told.now c.walk_nodes.new.replay))
    c.in_default-2.is c.in_ok-inside-in-Sub.ensures.comes in
    sub_put_off _ _ _ _ _ _ _ _ _ _ _ _ _ _ _ c.loop-node.invariant here none_over comes

pub loop-node-preserved : goal.loop-node-preserved
loop-node-preserved t c =
    elim c.if-skip-gt0.branch [
      | then-skip-gt0 w ↦
          let here = peeled _ _ _ c.loop-node-test.true c.node-item.is in
          rw (w.replay-is, w.opinion-is, w.skip-is)
          (walking_skip _ _ _ _ _ _ _ _ _ _ _ _ _ _ _ _ _ c.loop-node.invariant here w.if-skip-gt0.true refl
          (ap (λ n. c.loop-node.replay.at + n) w.lines_of.ensures) refl)
      | else-skip-gt0+in-Line+in_ok-onward-in-Line+in-Some w ↦
          let here = peeled_line _ _ _ _ c.loop-node-test.true c.node-item.is w.in-Line.is in
          let none_over : c.loop-node.skip ≡ 0 = omega arith in
          let rest : Stack = stack_of (drop (c.loop-node.node-index + 1) c.deref-node-items.result.now) in
          let serve : Serving (PassState Telling) = serving c.args.kind (answers_held (kept_answers c.args.follows.now)) replaying in
          let old : PassState Telling = state_in c.args.past.now c.args.told.now c.loop-node.replay in
          let new : PassState Telling = state_in c.args.past.now c.args.told.now w.walk_line.new.replay in
          let goes = λ (counted : count rest ≡ c.loop-node.left - 1).
          subst (λ (o : Option NextNode). walk c.args.kind serve 0 (line w.in-Line.rule rest) (c.loop-node.replay.at + 1) c.args.entry c.loop-node.opinion old
          ≡ after_line c.args.kind serve rest (c.loop-node.replay.at + 1 + 1) c.args.entry c.loop-node.opinion o new)
          w.in-Some.is (w.in_ok-onward-in-Line.ensures.goes rest counted) in
          let further = subst (λ (o : Option NextNode). IfSome o (λ _. w.walk_line.new.replay.at ≡ c.loop-node.replay.at + 1)) w.in-Some.is
          w.in_ok-onward-in-Line.ensures.at in
          rw (w.replay-is, w.opinion-is, w.skip-is)
          (walking_line _ _ _ _ _ _ _ _ _ _ _ _ _ _ _ _ _ _ c.loop-node.invariant here none_over further refl goes)
      | else-skip-gt0+in-Sub+in_ok-inside-in-Sub+in-Some-2 w ↦
          let here = peeled_sub _ _ _ _ c.loop-node-test.true c.node-item.is w.in-Sub.is in
          let none_over : c.loop-node.skip ≡ 0 = omega arith in
          let serve : Serving (PassState Telling) = serving c.args.kind (answers_held (kept_answers c.args.follows.now)) replaying in
          let inside = walk c.args.kind serve 0 (stack_of w.in-Sub.inner.vec.items) (c.loop-node.replay.at + 1) c.loop-node.opinion c.loop-node.opinion
          (state_in c.args.past.now c.args.told.now c.loop-node.replay) in
          let comes = subst (λ (end : Option Opinion). WalkEnds inside end (state_in c.args.past.now c.args.told.now w.walk_nodes.new.replay))
          w.in-Some-2.is w.in_ok-inside-in-Sub.ensures.comes in
          let further = subst (λ (end : Option Opinion). IfSome end (λ _. w.walk_nodes.new.replay.at
          ≡ c.loop-node.replay.at + lines_in (stack_of w.in-Sub.inner.vec.items)))
          w.in-Some-2.is w.in_ok-inside-in-Sub.ensures.at in
          let skip_is = w.skip-is ∙ none_over in
          rw (w.replay-is, w.opinion-is, skip_is)
          (walking_sub _ _ _ _ _ _ _ _ _ _ _ _ _ _ _ _ _ _ c.loop-node.invariant here none_over further refl comes)
    ]
