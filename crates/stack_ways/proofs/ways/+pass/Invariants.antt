use Rattle.std.proofs.Common.{◌+◌, ◌*◌, [], take, drop}
use Rattle.control_words.specs.Stack.{depth, node_on, none, stack_of}
use Rattle.stack_ways.specs.LineCodes.{counts_in, possible_in}
use Rattle.stack_ways.specs.Steps.{SubStep}
use Rattle.stack_ways.specs.Ways.{Each, Gained}
use Rattle.stack_ways.proofs.WaitingWayFacts.{Waiting}
use Rattle.stack_ways.proofs.ways.+pass.Given as goal

abbrev pub decreases-pass_list : goal.decreases-pass_list
decreases-pass_list l = 4 * depth (stack_of l.nodes.now.vec.items) + 3

abbrev pub decreases-pass_node : goal.decreases-pass_node
decreases-pass_node l = 4 * depth (node_on l.node.now none) + 2

abbrev pub decreases-pass_sub_by_all : goal.decreases-pass_sub_by_all
decreases-pass_sub_by_all l = 4 * depth (stack_of l.inner.now.vec.items) + 5

abbrev pub decreases-pass_sub : goal.decreases-pass_sub
decreases-pass_sub l = 4 * depth (stack_of l.inner.now.vec.items) + 4

abbrev pub invariant-pass_list-loop-node : goal.invariant-pass_list-loop-node
invariant-pass_list-loop-node l =
    Waiting (possible_in l.assumed) (counts_in l.assumed) (stack_of l.nodes.vec.items) l.first l.entry (stack_of (drop l.node-index l.node-items)) l.place
    l.left l.ways

abbrev pub invariant-pass_sub_by_all-loop-way : goal.invariant-pass_sub_by_all-loop-way
invariant-pass_sub_by_all-loop-way l =
    Gained (Each (SubStep (possible_in l.assumed) (counts_in l.assumed) (stack_of l.inner.vec.items) l.place) (take l.way-index l.ways)) [] l.next
