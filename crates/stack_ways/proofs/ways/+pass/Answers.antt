use Rattle.std.proofs.Common.{◌≡◌, ◌+◌, ◌-◌, ◌*◌, ◌<◌, ◌≤◌, List, [], drop, refl, sym, ap, subst, arith}
use Rattle.std.proofs.lemmas.List.{drop_all}
use Rattle.control_words.specs.declared.nodes.Node.{Node}
use Rattle.control_words.specs.Stack.{Stack, depth, lines_in, node_on, none, stack_of}
use Rattle.stack_ways.specs.declared.way.Way.{Way}
use Rattle.stack_ways.specs.LineCodes.{counts_in, possible_in}
use Rattle.stack_ways.specs.Steps.{AfterSub, StackStep, SubStep}
use Rattle.stack_ways.specs.Ways.{Each, Gained}
use Rattle.stack_ways.proofs.WayListFacts.{each_all, each_more}
use Rattle.stack_ways.proofs.RestOfStackFacts.{depth_head, few_there, node_sub, peeled, some_left}
use Rattle.stack_ways.proofs.GainedWayFacts.{gained_sub, gained_sub_skip}
use Rattle.stack_ways.proofs.WaitingWayFacts.{waiting_last, waiting_node, waiting_start}
use Rattle.stack_ways.proofs.ways.+pass.Goals as goal

pub pass_list-overflow_sub-left : goal.pass_list-overflow_sub-left
pass_list-overflow_sub-left t c = some_left _ _ _ _ c.loop-node-test.true c.node-item.is c.loop-node.invariant.counted

pub pass_list-loop-node-init : goal.pass_list-loop-node-init
pass_list-loop-node-init t c = waiting_start _ _ _ _ _ _ _ _ (ap stack_of c.deref-node-items.ensures.value) c.len-left.ensures.counted c.in_ok-ways.ensures

pub pass_list-pass_node-requires : goal.pass_list-pass_node-requires
pass_list-pass_node-requires t c =
    let rest : Stack = stack_of (drop (c.loop-node.node-index + 1) c.deref-node-items.result.now) in
    let here = peeled _ _ _ c.loop-node-test.true c.node-item.is in
    let falls : 4 * depth (node_on c.node-item.result none) + 2 < t =
    omega (arith, ap depth here, depth_head c.node-item.result rest, c.loop-node.invariant.shallow, c.decreases) in
    let few : c.loop-node.place + lines_in (node_on c.node-item.result none) ≤ 4097 =
    few_there _ _ _ _ _ _ c.loop-node-test.true c.node-item.is c.loop-node.invariant.placed c.requires.few in
    (falls, few)

pub pass_list-lines_of-place-requires : goal.pass_list-lines_of-place-requires
pass_list-lines_of-place-requires t c =
    let few : c.loop-node.place + lines_in (node_on c.node-item.result none) ≤ 4097 =
    few_there _ _ _ _ _ _ c.loop-node-test.true c.node-item.is c.loop-node.invariant.placed c.requires.few in
    record { few = omega (arith, few) }

pub pass_list-overflow_add-place : goal.pass_list-overflow_add-place
pass_list-overflow_add-place t c =
    let few : c.loop-node.place + lines_in (node_on c.node-item.result none) ≤ 4097 =
    few_there _ _ _ _ _ _ c.loop-node-test.true c.node-item.is c.loop-node.invariant.placed c.requires.few in
    omega (arith, few, c.lines_of-place.ensures)

pub pass_list-loop-node-preserved : goal.pass_list-loop-node-preserved
pass_list-loop-node-preserved t c =
    let node : Node = c.node-item.result in
    let here = peeled _ _ _ c.loop-node-test.true c.node-item.is in
    let gained = subst (λ (ways : List Way). Gained (Each
    (StackStep (possible_in c.args.assumed.now) (counts_in c.args.assumed.now) (node_on node none) c.loop-node.place (c.loop-node.left - 1) c.args.entry)
    ways) [] c.in_ok-ways-2.ways)
    c.items.ensures c.in_ok-ways-2.ensures in
    waiting_node _ _ _ _ _ _ _ node _ _ _ _ _ _ c.loop-node.invariant here refl (ap (λ n. c.loop-node.place + n) c.lines_of-place.ensures) gained

pub pass_list-returns : goal.pass_list-returns
pass_list-returns t c =
    waiting_last _ _ _ _ _ _ _ _ _ c.loop-node.invariant (ap stack_of (drop_all c.loop-node.node-index c.deref-node-items.result.now c.loop-node-test.false))

pub pass_node-pass_sub_by_all-requires : goal.pass_node-pass_sub_by_all-requires
pass_node-pass_sub_by_all-requires t c =
    let is = node_sub _ _ c.in-Sub.is in
    let falls : 4 * depth (stack_of c.in-Sub.inner.vec.items) + 5 < t = omega (arith, ap depth is, c.decreases) in
    let few : c.args.place + lines_in (stack_of c.in-Sub.inner.vec.items) ≤ 4097 = omega (arith, ap lines_in is, c.requires.few) in
    (falls, few)

pub pass_node-returns-in_ok-next-in-Line : goal.pass_node-returns-in_ok-next-in-Line
pass_node-returns-in_ok-next-in-Line t c =
    subst (λ (n : Node). Gained (Each (StackStep (possible_in c.args.assumed.now) (counts_in c.args.assumed.now) (node_on n none) c.args.place c.args.left
    c.args.entry) c.args.ways.now) [] c.in_ok-next-in-Line.next)
    (sym c.in-Line.is) c.in_ok-next-in-Line.ensures

pub pass_node-returns-in_ok-next-in-Sub : goal.pass_node-returns-in_ok-next-in-Sub
pass_node-returns-in_ok-next-in-Sub t c =
    subst (λ (s : Stack). Gained (Each (StackStep (possible_in c.args.assumed.now) (counts_in c.args.assumed.now) s c.args.place c.args.left c.args.entry)
    c.args.ways.now) [] c.in_ok-next-in-Sub.next)
    (sym (node_sub _ _ c.in-Sub.is)) c.in_ok-next-in-Sub.ensures

pub pass_sub-returns-in_ok-skip_node : goal.pass_sub-returns-in_ok-skip_node
pass_sub-returns-in_ok-skip_node t c = gained_sub_skip _ _ _ _ _ _ _ c.if-way-gt0.true c.in_ok-skip_node.ensures

pub pass_sub-returns-in_ok-leave_sub : goal.pass_sub-returns-in_ok-leave_sub
pass_sub-returns-in_ok-leave_sub t c =
    let none : c.args.way.now.skip ≡ 0 = omega arith in
    let gained = subst (λ (ends : List Way). Gained (Each (AfterSub c.args.way.now) ends) c.args.next.now c.leave_sub.new.next) c.items.ensures
    (c.in_ok-leave_sub.ensures {u = tt}).gained in
    gained_sub (possible_in c.args.assumed.now) (counts_in c.args.assumed.now) (stack_of c.args.inner.now.vec.items) c.args.place c.args.way.now
    c.in_ok-ends.ends c.args.next.now c.leave_sub.new.next
    none c.in_ok-ends.ensures gained

pub pass_sub_by_all-loop-way-preserved : goal.pass_sub_by_all-loop-way-preserved
pass_sub_by_all-loop-way-preserved t c =
    each_more (SubStep (possible_in c.args.assumed.now) (counts_in c.args.assumed.now) (stack_of c.args.inner.now.vec.items) c.args.place)
    _ _ c.way-item.result _ _ _ c.loop-way-test.true c.way-item.is c.loop-way.invariant c.in_ok-pass_sub.ensures

pub pass_sub_by_all-returns : goal.pass_sub_by_all-returns
pass_sub_by_all-returns t c = each_all _ _ _ _ _ c.loop-way-test.false c.loop-way.invariant
