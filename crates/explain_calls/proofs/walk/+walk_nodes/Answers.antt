use Rattle.std.proofs.Common.{◌≡◌, ◌<◌, ◌≤◌, ◌+◌, ◌-◌, ◌++◌, List, Option, drop, refl, arith, ap, sym, ◌∙◌, subst}
use Rattle.control_words.specs.declared.nodes.Node.{Node}
use Rattle.control_words.specs.Stack.{Stack, count, depth, line, lines_in, stack_of}
use Rattle.pass_replay.specs.dispatch_core.specs.Calls.{answers_held}
use Rattle.handler_chain.specs.declared.opinion.Opinion.{Opinion}
use Rattle.handler_chain.specs.Pass.{PassState, serving}
use Rattle.handler_chain.specs.Retell.{Telling, replaying}
use Rattle.handler_chain.specs.Walk.{Serving, walk}
use Rattle.pass_replay.specs.Kept.{kept_answers}
use Rattle.pass_replay.specs.declared.next_node.NextNode.{NextNode}
use Rattle.pass_replay.specs.Walk.{WalkEnds, state_in}
use Rattle.pass_replay.proofs.RestOfStackFacts.{few_there, peeled, peeled_line, peeled_sub, some_left}
use Rattle.pass_replay.proofs.NodeWalkFacts.{sub_put_off, walking_line, walking_skip, walking_sub}
use Rattle.explain_calls.specs.declared.turn.Turn.{Turn}
use Rattle.explain_calls.specs.Rows.{rows, rows_after}
use Rattle.explain_calls.specs.Walk.{after_turn}
use Rattle.explain_calls.proofs.WalkRowFacts.{few_left, last_are, showing_line, showing_skip, showing_sub, showing_waits, sub_waits}
use Rattle.explain_calls.proofs.walk.+walk_nodes.Goals as goal
use Rattle.explain_calls.proofs.walk.+walk_nodes.Goals.{then-skip-gt0+in_ok-replay, else-skip-gt0+in-Line+in_ok-turn-in-Line+in-Some}
use Rattle.explain_calls.proofs.walk.+walk_nodes.Goals.{else-skip-gt0+in-Sub+in_ok-inside-in-Sub+in-Some-2}

pub overflow_sub-left : goal.overflow_sub-left
overflow_sub-left t c = some_left _ _ _ _ c.loop-node-test.true c.node-item.is c.loop-node.invariant.walking.counted

pub pass_over_node-requires : goal.pass_over_node-requires
pass_over_node-requires t c =
    let few = few_there _ _ _ _ _ c.loop-node-test.true c.node-item.is c.loop-node.invariant.walking.placed c.requires.few in
    record { few = omega (arith, few) }

pub walk_nodes-requires : goal.walk_nodes-requires
walk_nodes-requires t c =
    let here = peeled_sub _ _ _ _ c.loop-node-test.true c.node-item.is c.in-Sub.is in
    let falls : depth (stack_of c.in-Sub.inner.vec.items) < t = omega (arith, ap depth here, c.loop-node.invariant.walking.shallow, c.decreases) in
    let few : c.loop-node.replay.at + lines_in (stack_of c.in-Sub.inner.vec.items) ≤ 4096 =
    omega (arith, ap lines_in here, c.loop-node.invariant.walking.placed, c.requires.few) in
    (falls, few)

pub pass_over_last-requires : goal.pass_over_last-requires
pass_over_last-requires t c =
    let here = peeled_line _ _ _ _ c.loop-node-test.true c.node-item.is c.in-Line.is in
    let counted : c.loop-node.left - 1 ≡ count (stack_of (drop (c.loop-node.node-index + 1) c.items-all.result.now)) =
    omega (arith, ap count here, c.loop-node.invariant.walking.counted) in
    record {
      left = few_left _ _ _ c.loop-node-test.true counted;
      few = rw (last_are _ _ _ c.loop-node-test.true counted) (omega (
        arith,
        ap lines_in here,
        c.loop-node.invariant.walking.placed,
        c.requires.few,
        c.in_ok-turn-in-Line.ensures.at,
      ));
    }

pub returns-in_default-clause-shows : goal.returns-in_default-clause-shows
returns-in_default-clause-shows t c =
    let here = peeled_line _ _ _ _ c.loop-node-test.true c.node-item.is c.in-Line.is in
    let none_over : c.loop-node.skip ≡ 0 = omega arith in
    let rest : Stack = stack_of (drop (c.loop-node.node-index + 1) c.items-all.result.now) in
    let serve : Serving (PassState Telling) = serving c.args.run.kind (answers_held (kept_answers c.args.run.follows.now)) replaying in
    let old : PassState Telling = state_in c.args.run.past.now c.args.run.told.now c.loop-node.replay in
    let new : PassState Telling = state_in c.args.run.past.now c.args.run.told.now c.walk_line.new.replay in
    let counted : count rest ≡ c.loop-node.left - 1 = omega (arith, ap count here, c.loop-node.invariant.walking.counted) in
    let last = last_are _ _ _ c.loop-node-test.true (sym counted) in
    let goes = λ (left : count rest ≡ c.loop-node.left - 1).
    subst (λ (o : Option Turn). c.loop-node.shown ++ rows c.args.run.kind serve 0 c.loop-node.why (line c.in-Line.rule rest) (c.loop-node.replay.at + 1)
    c.args.entry c.loop-node.opinion old
    ≡ c.walk_line.new.shown ++ rows_after c.args.run.kind serve rest (c.loop-node.replay.at + 1 + 1) c.args.entry o new)
    c.in_default.is (c.in_ok-turn-in-Line.ensures.shows rest left) in
    showing_waits _ _ _ _ _ _ _ _ _ rest _ _ _ _ _ _ _ _ _ _ _ _ c.loop-node.invariant.showing here none_over counted c.in_ok-turn-in-Line.ensures.at
    (ap stack_of last) goes c.in_ok-replay-in-Line.ensures.shows

pub returns-in_default-clause-at : goal.returns-in_default-clause-at
returns-in_default-clause-at t c =
    let here = peeled_line _ _ _ _ c.loop-node-test.true c.node-item.is c.in-Line.is in
    let counted : c.loop-node.left - 1 ≡ count (stack_of (drop (c.loop-node.node-index + 1) c.items-all.result.now)) =
    omega (arith, ap count here, c.loop-node.invariant.walking.counted) in
    let last = last_are _ _ _ c.loop-node-test.true counted in
    omega (
      arith,
      ap lines_in here,
      ap (λ (ns : List Node). lines_in (stack_of ns)) last,
      c.loop-node.invariant.walking.placed,
      c.in_ok-turn-in-Line.ensures.at,
      c.in_ok-replay-in-Line.ensures.at,
    )

pub returns-in_default-2-clause-comes : goal.returns-in_default-2-clause-comes
returns-in_default-2-clause-comes t c =
    let none_over : c.loop-node.skip ≡ 0 = omega arith in
    let here = peeled_sub _ _ _ _ c.loop-node-test.true c.node-item.is c.in-Sub.is in
    let inside = walk c.args.run.kind (serving c.args.run.kind (answers_held (kept_answers c.args.run.follows.now)) replaying) 0
    (stack_of c.in-Sub.inner.vec.items) (c.loop-node.replay.at + 1) c.loop-node.opinion c.loop-node.opinion
    (state_in c.args.run.past.now c.args.run.told.now c.loop-node.replay) in
    let comes = subst (λ (end : Option Opinion). WalkEnds inside end (state_in c.args.run.past.now c.args.run.told.now c.walk_nodes.new.replay))
    c.in_default-2.is c.in_ok-inside-in-Sub.ensures.comes in
    sub_put_off _ _ _ _ _ _ _ _ _ _ _ _ _ _ _ c.loop-node.invariant.walking here none_over comes

pub pass_over_last-requires-in_default-2 : goal.pass_over_last-requires-in_default-2
pass_over_last-requires-in_default-2 t c =
    let here = peeled_sub _ _ _ _ c.loop-node-test.true c.node-item.is c.in-Sub.is in
    let counted : c.loop-node.left - 1 ≡ count (stack_of (drop (c.loop-node.node-index + 1) c.items-all.result.now)) =
    omega (arith, ap count here, c.loop-node.invariant.walking.counted) in
    record {
      left = few_left _ _ _ c.loop-node-test.true counted;
      few = rw (last_are _ _ _ c.loop-node-test.true counted) (omega (
        arith,
        ap lines_in here,
        c.loop-node.invariant.walking.placed,
        c.requires.few,
        c.in_ok-inside-in-Sub.ensures.at,
      ));
    }

pub returns-in_default-2-clause-shows : goal.returns-in_default-2-clause-shows
returns-in_default-2-clause-shows t c =
    let none_over : c.loop-node.skip ≡ 0 = omega arith in
    let here = peeled_sub _ _ _ _ c.loop-node-test.true c.node-item.is c.in-Sub.is in
    let rest : Stack = stack_of (drop (c.loop-node.node-index + 1) c.items-all.result.now) in
    let counted : c.loop-node.left - 1 ≡ count rest = omega (arith, ap count here, c.loop-node.invariant.walking.counted) in
    let last = last_are _ _ _ c.loop-node-test.true counted in
    let inside = walk c.args.run.kind (serving c.args.run.kind (answers_held (kept_answers c.args.run.follows.now)) replaying) 0
    (stack_of c.in-Sub.inner.vec.items) (c.loop-node.replay.at + 1) c.loop-node.opinion c.loop-node.opinion
    (state_in c.args.run.past.now c.args.run.told.now c.loop-node.replay) in
    let comes = subst (λ (end : Option Opinion). WalkEnds inside end (state_in c.args.run.past.now c.args.run.told.now c.walk_nodes.new.replay))
    c.in_default-2.is c.in_ok-inside-in-Sub.ensures.comes in
    sub_waits _ _ _ _ _ _ _ _ _ _ rest _ _ _ _ _ _ _ _ _ _ _ c.loop-node.invariant.showing here none_over c.in_ok-inside-in-Sub.ensures.at (ap stack_of last)
    comes c.in_ok-inside-in-Sub.ensures.shows c.in_ok-replay-in-Sub.ensures.shows

pub returns-in_default-2-clause-at : goal.returns-in_default-2-clause-at
returns-in_default-2-clause-at t c =
    let here = peeled_sub _ _ _ _ c.loop-node-test.true c.node-item.is c.in-Sub.is in
    let counted : c.loop-node.left - 1 ≡ count (stack_of (drop (c.loop-node.node-index + 1) c.items-all.result.now)) =
    omega (arith, ap count here, c.loop-node.invariant.walking.counted) in
    let last = last_are _ _ _ c.loop-node-test.true counted in
    omega (
      arith,
      ap lines_in here,
      ap (λ (ns : List Node). lines_in (stack_of ns)) last,
      c.loop-node.invariant.walking.placed,
      c.in_ok-inside-in-Sub.ensures.at,
      c.in_ok-replay-in-Sub.ensures.at,
    )

pub loop-node-preserved : goal.loop-node-preserved
loop-node-preserved t c =
    elim c.if-skip-gt0.branch [
      | then-skip-gt0+in_ok-replay w ↦
          let here = peeled _ _ _ c.loop-node-test.true c.node-item.is in
          rw (w.shown-is, w.replay-is, w.opinion-is, w.why-is, w.skip-is)
          (record {
            walking = walking_skip _ _ _ _ _ _ _ _ _ _ _ _ _ _ _ _ _ c.loop-node.invariant.walking here w.if-skip-gt0.true refl w.in_ok-replay.ensures.at refl;
            showing = showing_skip _ _ _ _ _ _ _ _ _ _ _ _ _ _ _ _ _ _ _ _ c.loop-node.invariant.showing here w.if-skip-gt0.true refl w.in_ok-replay.ensures.at
                w.in_ok-replay.ensures.shows;
          })
      | else-skip-gt0+in-Line+in_ok-turn-in-Line+in-Some w ↦
          let here = peeled_line _ _ _ _ c.loop-node-test.true c.node-item.is w.in-Line.is in
          let none_over : c.loop-node.skip ≡ 0 = omega arith in
          let rest : Stack = stack_of (drop (c.loop-node.node-index + 1) c.items-all.result.now) in
          let serve : Serving (PassState Telling) = serving c.args.run.kind (answers_held (kept_answers c.args.run.follows.now)) replaying in
          let old : PassState Telling = state_in c.args.run.past.now c.args.run.told.now c.loop-node.replay in
          let new : PassState Telling = state_in c.args.run.past.now c.args.run.told.now w.walk_line.new.replay in
          let counted : count rest ≡ c.loop-node.left - 1 = omega (arith, ap count here, c.loop-node.invariant.walking.counted) in
          let goes = λ (left : count rest ≡ c.loop-node.left - 1).
          subst (λ (o : Option Turn). walk c.args.run.kind serve 0 (line w.in-Line.rule rest) (c.loop-node.replay.at + 1) c.args.entry c.loop-node.opinion old
          ≡ after_turn c.args.run.kind serve rest (c.loop-node.replay.at + 1 + 1) c.args.entry c.loop-node.opinion o new)
          w.in-Some.is (w.in_ok-turn-in-Line.ensures.goes rest left) in
          let shows = λ (left : count rest ≡ c.loop-node.left - 1).
          subst (λ (o : Option Turn). c.loop-node.shown ++ rows c.args.run.kind serve 0 c.loop-node.why (line w.in-Line.rule rest) (c.loop-node.replay.at + 1)
          c.args.entry c.loop-node.opinion old
          ≡ w.walk_line.new.shown ++ rows_after c.args.run.kind serve rest (c.loop-node.replay.at + 1 + 1) c.args.entry o new)
          w.in-Some.is (w.in_ok-turn-in-Line.ensures.shows rest left) in
          let further = w.in_ok-turn-in-Line.ensures.at in
          let onward : NextNode = record { opinion = w.in-Some.turn.opinion; skip = w.in-Some.turn.skip } in
          rw (w.shown-is, w.replay-is, w.opinion-is, w.why-is, w.skip-is)
          (record {
            walking = walking_line _ _ _ _ _ _ _ _ _ _ _ _ _ _ _ _ _ onward c.loop-node.invariant.walking here none_over further refl goes;
            showing = showing_line _ _ _ _ _ _ _ _ _ _ _ _ _ _ _ _ _ _ _ w.in-Some.turn _ _ c.loop-node.invariant.showing here none_over further counted shows;
          })
      | else-skip-gt0+in-Sub+in_ok-inside-in-Sub+in-Some-2 w ↦
          let here = peeled_sub _ _ _ _ c.loop-node-test.true c.node-item.is w.in-Sub.is in
          let none_over : c.loop-node.skip ≡ 0 = omega arith in
          let inside = walk c.args.run.kind (serving c.args.run.kind (answers_held (kept_answers c.args.run.follows.now)) replaying) 0
          (stack_of w.in-Sub.inner.vec.items) (c.loop-node.replay.at + 1) c.loop-node.opinion c.loop-node.opinion
          (state_in c.args.run.past.now c.args.run.told.now c.loop-node.replay) in
          let comes = subst (λ (end : Option Opinion). WalkEnds inside end (state_in c.args.run.past.now c.args.run.told.now w.walk_nodes.new.replay))
          w.in-Some-2.is w.in_ok-inside-in-Sub.ensures.comes in
          let further = w.in_ok-inside-in-Sub.ensures.at in
          let skip_is = w.skip-is ∙ none_over in
          rw (w.shown-is, w.replay-is, w.opinion-is, w.why-is, skip_is)
          (record {
            walking = walking_sub _ _ _ _ _ _ _ _ _ _ _ _ _ _ _ _ _ _ c.loop-node.invariant.walking here none_over further refl comes;
            showing = showing_sub _ _ _ _ _ _ _ _ _ _ _ _ _ _ _ _ _ _ _ _ _ c.loop-node.invariant.showing here none_over further comes
                w.in_ok-inside-in-Sub.ensures.shows;
          })
    ]
