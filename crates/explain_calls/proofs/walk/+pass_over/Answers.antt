use Rattle.std.proofs.Common.{List, ◌+◌, ◌<◌, ◌≤◌, arith, ap}
use Rattle.control_words.specs.declared.nodes.Node.{Node}
use Rattle.control_words.specs.Stack.{depth, lines_in, stack_of}
use Rattle.pass_replay.proofs.RestOfStackFacts.{peeled_line, peeled_sub}
use Rattle.explain_calls.proofs.WalkRowFacts.{over_line, over_sub}
use Rattle.explain_calls.proofs.walk.+pass_over.Goals as goal
use Rattle.explain_calls.proofs.walk.+pass_over.Goals.{in-Line+in_ok-of-in-Line+in_ok-push-in-Line, in-Sub+in_ok-last-in-Sub}

pub pass_over-requires : goal.pass_over-requires
pass_over-requires t c =
    let here = peeled_sub _ _ _ _ c.loop-node-test.true c.node-item.is c.in-Sub.is in
    let falls : depth (stack_of c.items.result.now) < t =
    omega (arith, ap depth here, ap (λ (ns : List Node). depth (stack_of ns)) c.items.ensures, c.loop-node.invariant.shallow, c.decreases) in
    let few : c.loop-node.last + lines_in (stack_of c.items.result.now) ≤ 4096 =
    omega (arith, ap lines_in here, ap (λ (ns : List Node). lines_in (stack_of ns)) c.items.ensures, c.loop-node.invariant.counted, c.requires.few) in
    (falls, few)

pub loop-node-preserved : goal.loop-node-preserved
loop-node-preserved t c =
    elim c.match-node.branch [
      | in-Line+in_ok-of-in-Line+in_ok-push-in-Line w ↦
          let here = peeled_line _ _ _ _ c.loop-node-test.true c.node-item.is w.in-Line.is in
          record {
            counted = omega (arith, ap lines_in here, c.loop-node.invariant.counted, w.last-is);
            shallow = omega (arith, ap depth here, c.loop-node.invariant.shallow);
            shown = rw (w.shown-is, w.last-is) (over_line c.args.why c.args.at c.loop-node.last (stack_of c.args.nodes.now) _ _ _ _ c.args.shown.now _ _
                c.loop-node.invariant.shown here w.in_ok-of-in-Line.ensures w.in_ok-push-in-Line.ensures.ok);
          }
      | in-Sub+in_ok-last-in-Sub w ↦
          let here = peeled_sub _ _ _ _ c.loop-node-test.true c.node-item.is w.in-Sub.is in
          record {
            counted = omega (
              arith,
              ap lines_in here,
              ap (λ (ns : List Node). lines_in (stack_of ns)) w.items.ensures,
              c.loop-node.invariant.counted,
              w.last-is,
              w.in_ok-last-in-Sub.ensures.at,
            );
            shallow = omega (arith, ap depth here, c.loop-node.invariant.shallow);
            shown = rw (w.shown-is, w.last-is, w.in_ok-last-in-Sub.ensures.at, w.items.ensures)
                (over_sub c.args.why c.args.at c.loop-node.last (stack_of c.args.nodes.now) _ _ _ c.args.shown.now _ _ c.loop-node.invariant.shown here
                (rw w.items.ensures at w.in_ok-last-in-Sub.ensures.shows));
          }
    ]
