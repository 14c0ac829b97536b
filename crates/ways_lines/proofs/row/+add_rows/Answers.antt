use Rattle.std.proofs.Common.{List, ◌<◌, arith, ap}
use Rattle.control_words.specs.declared.nodes.Node.{Node}
use Rattle.control_words.specs.Stack.{depth, stack_of}
use Rattle.handler_chain.proofs.RestOfStackFacts.{peeled_line, peeled_sub}
use Rattle.ways_lines.proofs.NodeRowFacts.{after_line, after_sub}
use Rattle.ways_lines.proofs.row.+add_rows.Goals as goal
use Rattle.ways_lines.proofs.row.+add_rows.Goals.{in-Line+in_ok-copied-in-Line+in_ok-push-in-Line, in-Sub+in_ok-push-in-Sub+in_ok-add_rows-in-Sub+in_ok-push-in-Sub-2}

pub add_rows-requires : goal.add_rows-requires
add_rows-requires t c =
    let here = peeled_sub _ _ _ _ c.loop-node-test.true c.node-item.is c.in-Sub.is in
    let falls : depth (stack_of c.items.result.now) < t =
    omega (arith, ap depth here, ap (λ (ns : List Node). depth (stack_of ns)) c.items.ensures, c.loop-node.invariant.shallow, c.decreases) in
    (falls, tt)

pub loop-node-preserved : goal.loop-node-preserved
loop-node-preserved t c =
    elim c.match-node.branch [
      | in-Line+in_ok-copied-in-Line+in_ok-push-in-Line w ↦
          let here = peeled_line _ _ _ _ c.loop-node-test.true c.node-item.is w.in-Line.is in
          record {
            shallow = omega (arith, ap depth here, c.loop-node.invariant.shallow);
            so_far = rw w.rows-is (after_line (stack_of c.args.nodes.now) _ _ _ _ c.args.rows.now _ _ c.loop-node.invariant.so_far here
                w.in_ok-copied-in-Line.ensures w.in_ok-push-in-Line.ensures.ok);
          }
      | in-Sub+in_ok-push-in-Sub+in_ok-add_rows-in-Sub+in_ok-push-in-Sub-2 w ↦
          let here = peeled_sub _ _ _ _ c.loop-node-test.true c.node-item.is w.in-Sub.is in
          record {
            shallow = omega (arith, ap depth here, c.loop-node.invariant.shallow);
            so_far = rw w.rows-is (after_sub (stack_of c.args.nodes.now) _ _ _ c.args.rows.now _ _ _ _ c.loop-node.invariant.so_far here
                w.in_ok-push-in-Sub.ensures.ok (rw w.items.ensures at w.in_ok-add_rows-in-Sub.ensures) w.in_ok-push-in-Sub-2.ensures.ok);
          }
    ]
