use Rattle.std.proofs.Common.{rules, refl, ◌≡◌, ◌<◌, arith, ap, length, drop_of_length-le}
use Rattle.control_words.specs.Stack.{stack_of, depth}
use Rattle.service_print.proofs.AppendedTextFacts.{from_empty}
use Rattle.service_print.proofs.RestOfStackFacts.{peeled_line, peeled_sub}
use Rattle.service_print.proofs.PrintedNodeFacts.{adding_line, adding_sub, adding_end, put_files}
use Rattle.service_print.proofs.substack.+add_nodes.Goals as goal
use Rattle.service_print.proofs.substack.+add_nodes.Goals.{in-Line+in_ok-add_rule_line-in-Line, in-Sub+in_ok-add_substack_line-in-Sub+in_ok-push-in-Sub+in_ok-add_nodes-in-Sub+in_ok-name-in-Sub}

pub add_nodes-requires : goal.add_nodes-requires
add_nodes-requires t c =
    let here = peeled_sub _ _ _ _ c.loop-node-test.true c.node-item.is c.in-Sub.is in
    let falls : depth (stack_of c.in-Sub.inner.vec.items) < t = omega (arith, ap depth here, c.loop-node.invariant.shallow, c.decreases) in
    (falls, tt)

pub loop-node-preserved : goal.loop-node-preserved
loop-node-preserved t c =
    elim c.match-node.branch [
      | in-Line+in_ok-add_rule_line-in-Line w ↦
          let here = peeled_line _ _ _ _ c.loop-node-test.true c.node-item.is w.in-Line.is in
          rw (w.text-is, w.files-is) (adding_line _ _ _ _ _ _ _ _ _ _ _ c.loop-node.invariant here w.in_ok-add_rule_line-in-Line.ensures)
      | in-Sub+in_ok-add_substack_line-in-Sub+in_ok-push-in-Sub+in_ok-add_nodes-in-Sub+in_ok-name-in-Sub w ↦
          let here = peeled_sub _ _ _ _ c.loop-node-test.true c.node-item.is w.in-Sub.is in
          let number : w.len-number.result ≡ length c.loop-node.files.items = search rules in
          rw (w.text-is, w.files-is)
          (adding_sub _ _ _ _ _ _ _ _ _ _ _ _ _ c.loop-node.invariant here number w.in_ok-add_substack_line-in-Sub.ensures
          (put_files _ _ _ _ _ _ _ _ _ _ _ number w.in_ok-push-in-Sub.ensures.items (from_empty _ _ _ w.new-inner_text.ensures.items w.in_ok-add_nodes-in-Sub.ensures.lines) w.in_ok-add_nodes-in-Sub.ensures.files (rw w.in_ok-name-in-Sub.ensures refl) w.fill.ensures))
    ]

pub returns-clause-lines : goal.returns-clause-lines
returns-clause-lines t c =
    (adding_end _ _ _ _ _ _ _ _ c.loop-node.invariant (ap stack_of (drop_of_length-le c.deref-node-items.result.now c.loop-node-test.false))).0

pub returns-clause-files : goal.returns-clause-files
returns-clause-files t c =
    (adding_end _ _ _ _ _ _ _ _ c.loop-node.invariant (ap stack_of (drop_of_length-le c.deref-node-items.result.now c.loop-node-test.false))).1
