use Rattle.std.proofs.Common.{◌<◌, ◌≤◌, arith, ap}
use Rattle.control_words.specs.Stack.{depth, lines_in, stack_of}
use Rattle.pass_replay.proofs.RestOfStackFacts.{peeled_line, peeled_sub}
use Rattle.pass_replay.proofs.walk.+line_count.Goals as goal
use Rattle.pass_replay.proofs.walk.+line_count.Goals.{in-Line, in-Sub}

pub line_count-lines-requires : goal.line_count-lines-requires
line_count-lines-requires t c =
    let here = peeled_sub _ _ _ _ c.loop-node-test.true c.node-item.is c.in-Sub.is in
    let falls : depth (stack_of c.in-Sub.inner.vec.items) < t = omega (arith, ap depth here, c.loop-node.invariant.shallow, c.decreases) in
    let few : lines_in (stack_of c.in-Sub.inner.vec.items) ≤ 4096 = omega (arith, ap lines_in here, c.loop-node.invariant.counted, c.requires.few) in
    (falls, few)

pub overflow_add-lines-in-Sub : goal.overflow_add-lines-in-Sub
overflow_add-lines-in-Sub t c =
    let here = peeled_sub _ _ _ _ c.loop-node-test.true c.node-item.is c.in-Sub.is in
    omega (arith, ap lines_in here, c.loop-node.invariant.counted, c.requires.few, c.line_count-lines.ensures)

pub loop-node-preserved : goal.loop-node-preserved
loop-node-preserved t c =
    elim c.match-node.branch [
      | in-Line w ↦
          let here = peeled_line _ _ _ _ c.loop-node-test.true c.node-item.is w.in-Line.is in
          record {
            counted = omega (arith, ap lines_in here, c.loop-node.invariant.counted, w.lines-is);
            shallow = omega (arith, ap depth here, c.loop-node.invariant.shallow);
          }
      | in-Sub w ↦
          let here = peeled_sub _ _ _ _ c.loop-node-test.true c.node-item.is w.in-Sub.is in
          record {
            counted = omega (arith, ap lines_in here, c.loop-node.invariant.counted, w.lines-is, w.line_count-lines.ensures);
            shallow = omega (arith, ap depth here, c.loop-node.invariant.shallow);
          }
    ]
