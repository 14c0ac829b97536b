use Rattle.std.proofs.Common.{◌≡◌, ◌+◌, ◌∷◌, [], ◌++◌, append_assoc, arith, ap, ◌∙◌, rules, drop}
use Rattle.control_words.specs.Stack.{lines_in, stack_of}
use Rattle.handler_chain.specs.Flat.{positions_after}
use Rattle.handler_chain.proofs.RestOfStackFacts.{peeled_line, peeled_sub, IsNext, next_line, next_sub, marked}
use Rattle.handler_chain.proofs.add_list.add_positions.Goals as goal
use Rattle.handler_chain.proofs.add_list.add_positions.Goals.{in-Line, in-Sub}

pub loop-node-init : goal.loop-node-init
loop-node-init c = record {
  marked =
      let pushed : c.push.new.self.items ≡ c.args.positions.now.items ++ c.args.first ∷ [] = search rules in
      rw (pushed, c.deref-node-items.ensures.value) (append_assoc c.args.positions.now.items (c.args.first ∷ []) (positions_after c.args.first (stack_of c.args.nodes.now.vec.items)));
  few = rw c.deref-node-items.ensures.value c.requires.few;
}

pub line_count-requires : goal.line_count-requires
line_count-requires c =
    let here = ap lines_in (peeled_sub _ _ _ _ c.loop-node-test.true c.node-item.is c.in-Sub.is) in
    omega (arith, here, c.loop-node.invariant.few)

pub overflow_add-position : goal.overflow_add-position
overflow_add-position c =
    let next : IsNext (stack_of (drop c.loop-node.node-index c.deref-node-items.result.now)) (stack_of (drop (c.loop-node.node-index + 1) c.deref-node-items.result.now)) c.match-node.position =
    elim c.match-node.branch [
      | in-Line w ↦ next_line _ _ _ _ (peeled_line _ _ _ _ c.loop-node-test.true c.node-item.is w.in-Line.is) w.position-is
      | in-Sub w ↦ next_sub _ _ _ _ (peeled_sub _ _ _ _ c.loop-node-test.true c.node-item.is w.in-Sub.is) (w.position-is ∙ w.line_count.ensures)
    ] in
    omega (arith, next.lines, c.loop-node.invariant.few)

pub loop-node-preserved : goal.loop-node-preserved
loop-node-preserved c =
    let next : IsNext (stack_of (drop c.loop-node.node-index c.deref-node-items.result.now)) (stack_of (drop (c.loop-node.node-index + 1) c.deref-node-items.result.now)) c.match-node.position =
    elim c.match-node.branch [
      | in-Line w ↦ next_line _ _ _ _ (peeled_line _ _ _ _ c.loop-node-test.true c.node-item.is w.in-Line.is) w.position-is
      | in-Sub w ↦ next_sub _ _ _ _ (peeled_sub _ _ _ _ c.loop-node-test.true c.node-item.is w.in-Sub.is) (w.position-is ∙ w.line_count.ensures)
    ] in
    let pushed : c.push-in-loop-node.new.self.items ≡ c.loop-node.positions.items ++ (c.loop-node.position + c.match-node.position) ∷ [] = search rules in
    record {
      marked = marked _ c.loop-node.positions.items _ _ _ _ _ next c.loop-node.invariant.marked pushed;
      few = omega (arith, next.lines, c.loop-node.invariant.few);
    }
