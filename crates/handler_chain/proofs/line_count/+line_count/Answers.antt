use Rattle.std.proofs.Common.{◌<◌, arith, ap}
use Rattle.control_words.specs.Stack.{lines_in, stack_of, depth}
use Rattle.handler_chain.proofs.RestOfStackFacts.{peeled_line, peeled_sub}
use Rattle.handler_chain.proofs.line_count.+line_count.Goals as goal
use Rattle.handler_chain.proofs.line_count.+line_count.Goals.{in-Line, in-Sub}

pub loop-node-preserved : goal.loop-node-preserved
loop-node-preserved t c =
    elim c.match-node.branch [
      | in-Line w ↦
          let here = peeled_line _ _ _ _ c.loop-node-test.true c.node-item.is w.in-Line.is in
          record {
            counted = omega (arith, ap lines_in here, c.loop-node.invariant.counted, w.count-is);
            shallow = omega (arith, ap depth here, c.loop-node.invariant.shallow);
          }
      | in-Sub w ↦
          let here = peeled_sub _ _ _ _ c.loop-node-test.true c.node-item.is w.in-Sub.is in
          record {
            counted = omega (arith, ap lines_in here, c.loop-node.invariant.counted, w.count-is, w.line_count.ensures);
            shallow = omega (arith, ap depth here, c.loop-node.invariant.shallow);
          }
    ]

pub line_count-requires : goal.line_count-requires
line_count-requires t c =
    let here = peeled_sub _ _ _ _ c.loop-node-test.true c.node-item.is c.in-Sub.is in
    let lines = ap lines_in here in
    let deep = ap depth here in
    let falls : depth (stack_of c.in-Sub.inner.vec.items) < t = omega (arith, deep, c.loop-node.invariant.shallow, c.decreases) in
    (falls, omega (arith, lines, c.loop-node.invariant.counted, c.requires.few))

pub overflow_add-count : goal.overflow_add-count
overflow_add-count t c =
    elim c.match-node.branch [
      | in-Line w ↦
          let here = ap lines_in (peeled_line _ _ _ _ c.loop-node-test.true c.node-item.is w.in-Line.is) in
          omega (arith, here, c.loop-node.invariant.counted, w.count-is, c.requires.few)
      | in-Sub w ↦
          let here = ap lines_in (peeled_sub _ _ _ _ c.loop-node-test.true c.node-item.is w.in-Sub.is) in
          omega (arith, here, c.loop-node.invariant.counted, w.count-is, w.line_count.ensures, c.requires.few)
    ]
