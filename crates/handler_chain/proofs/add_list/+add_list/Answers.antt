use Rattle.std.proofs.Common.{ℕ, List, rules, arith, ◌≡◌, ◌≤◌, ◌<◌, length, drop, ap, ◌∙◌, sym, refl, drop_of_length-le, length-drop}
use Rattle.control_words.specs.Stack.{stack_of, lines_in, count, depth}
use Rattle.control_words.specs.declared.nodes.Node.{Line}
use Rattle.handler_chain.proofs.NodeListFacts.{count-stack_of}
use Rattle.handler_chain.specs.FlatLines.{module_of, number_of_name}
use Rattle.control_words.specs.Module.{name_of_module}
use Rattle.control_words.specs.declared.nodes.Rule.{Rule}
use Rattle.handler_chain.proofs.RestOfStackFacts.{peeled_line, peeled_sub}
use Rattle.handler_chain.proofs.AddedNodeFacts.{adding_start, adding_line, adding_sub, adding_end, pending_some, pending_none}
use Rattle.handler_chain.proofs.add_list.+add_list.Goals as goal
use Rattle.handler_chain.proofs.add_list.+add_list.Goals.{in-Line+in_ok-rule-in-Line+in_ok-push-in-Line, in-Sub+in_ok-add_list-in-Sub+then-len-before, in-Sub+in_ok-add_list-in-Sub+else-len-before}

pub loop-node-init : goal.loop-node-init
loop-node-init t c =
    let first : c.len.result ≡ length c.args.lines.now.items = search rules in
    let start : c.len-past_end.result ≡ length c.args.positions.now.items = search rules in
    let nodes : c.len-left.result ≡ count (stack_of c.args.nodes.now.vec.items) = search (rules, count-stack_of) in
    rw c.deref-node-items.ensures.value
    (adding_start c.args.names.now c.args.level c.args.opens (stack_of c.args.nodes.now.vec.items) c.args.lines.now.items c.args.positions.now.items _ _ c.len.result _ c.in_ok-add_positions.ensures first start nodes c.requires.few c.requires.opens)

pub overflow_add-past_end : goal.overflow_add-past_end
overflow_add-past_end t c = omega (arith, c.loop-node.invariant.block.room)

pub overflow_sub-left : goal.overflow_sub-left
overflow_sub-left t c =
    let some : 0 < length (drop c.loop-node.node-index c.deref-node-items.result.now) = omega (arith, length-drop c.loop-node.node-index c.deref-node-items.result.now) in
    omega (arith, c.loop-node.invariant.remain, count-stack_of (drop c.loop-node.node-index c.deref-node-items.result.now), some)

pub overflow_add-opens : goal.overflow_add-opens
overflow_add-opens t c = omega (arith, c.loop-node.invariant.opened, c.requires.shallow)

pub add_list-requires : goal.add_list-requires
add_list-requires t c =
    let here = peeled_sub _ _ _ _ c.loop-node-test.true c.node-item.is c.in-Sub.is in
    let lines = ap lines_in here in
    let deep = ap depth here in
    let falls : depth (stack_of c.in-Sub.inner.vec.items) < t = omega (arith, deep, c.loop-node.invariant.shallow, c.decreases) in
    (falls, (omega (arith, lines, c.loop-node.invariant.few), (omega (arith, deep, c.loop-node.invariant.shallow, c.requires.shallow), omega (arith, c.loop-node.invariant.opened))))

pub loop-node-preserved : goal.loop-node-preserved
loop-node-preserved t c =
    elim c.match-node.branch [
      | in-Line+in_ok-rule-in-Line+in_ok-push-in-Line w ↦
          let here = peeled_line _ _ _ _ c.loop-node-test.true c.node-item.is (w.in-Line.is ∙ ap Line (sym w.in_ok-rule-in-Line.ensures)) in
          let copied : w.in-Line.rule.path ≡ w.in_ok-rule-in-Line.rule.path = sym (ap (λ (r : Rule). r.path) w.in_ok-rule-in-Line.ensures) in
          let named : w.number_of-module_number.result ≡ module_of c.args.names.now w.in_ok-rule-in-Line.rule =
          w.number_of-module_number.ensures ∙ ap (λ (p : List ℕ). number_of_name p 0 c.args.names.now) (w.module_name.ensures ∙ ap name_of_module (w.bytes.ensures ∙ copied)) in
          rw (w.lines-is, w.positions-is, w.opens-is)
          (adding_line _ _ _ _ _ _ _ _ _ _ _ _ _ _ _ c.loop-node.invariant here named refl refl refl refl w.in_ok-push-in-Line.ensures.items)
      | in-Sub+in_ok-add_list-in-Sub+then-len-before w ↦
          let here = peeled_sub _ _ _ _ c.loop-node-test.true c.node-item.is w.in-Sub.is in
          let lines = w.in_ok-add_list-in-Sub.ensures.counted in
          let first : w.len-before.result ≡ length c.loop-node.lines.items = search rules in
          let last : w.len-in-Sub.result ≡ length w.add_list.new.lines.items = search rules in
          let some : 0 < lines_in (stack_of w.in-Sub.inner.vec.items) = omega (arith, lines, w.if-len-before.true, first, last) in
          let level : 0 ≤ c.args.level = omega arith in
          rw (w.lines-is, w.positions-is, w.opens-is)
          (adding_sub _ _ _ _ _ _ _ _ _ _ _ _ _ _ _ _ _ c.loop-node.invariant here w.in_ok-add_list-in-Sub.ensures.added lines (pending_some _ _ some) level)
      | in-Sub+in_ok-add_list-in-Sub+else-len-before w ↦
          let here = peeled_sub _ _ _ _ c.loop-node-test.true c.node-item.is w.in-Sub.is in
          let lines = w.in_ok-add_list-in-Sub.ensures.counted in
          let first : w.len-before.result ≡ length c.loop-node.lines.items = search rules in
          let last : w.len-in-Sub.result ≡ length w.add_list.new.lines.items = search rules in
          let few : lines_in (stack_of w.in-Sub.inner.vec.items) ≤ 0 = omega (arith, lines, w.if-len-before.false, first, last) in
          rw (w.lines-is, w.positions-is, w.opens-is)
          (adding_sub _ _ _ _ _ _ _ _ _ _ _ _ _ _ _ _ _ c.loop-node.invariant here w.in_ok-add_list-in-Sub.ensures.added lines (pending_none _ _ few) c.loop-node.invariant.opened)
    ]

pub returns-clause-added : goal.returns-clause-added
returns-clause-added t c =
    (adding_end _ _ _ _ _ _ _ _ _ _ _ _ c.loop-node.invariant (ap stack_of (drop_of_length-le c.deref-node-items.result.now c.loop-node-test.false))).0

pub returns-clause-counted : goal.returns-clause-counted
returns-clause-counted t c =
    (adding_end _ _ _ _ _ _ _ _ _ _ _ _ c.loop-node.invariant (ap stack_of (drop_of_length-le c.deref-node-items.result.now c.loop-node-test.false))).1
