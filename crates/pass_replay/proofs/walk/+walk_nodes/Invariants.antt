use Rattle.std.proofs.Common.{drop}
use Rattle.control_words.specs.Stack.{depth, stack_of}
use Rattle.dispatch_core.specs.Calls.{answers_held}
use Rattle.handler_chain.specs.Pass.{serving}
use Rattle.handler_chain.specs.Retell.{replaying}
use Rattle.pass_replay.specs.Kept.{kept_answers}
use Rattle.pass_replay.specs.Walk.{state_in}
use Rattle.pass_replay.proofs.NodeWalkFacts.{IsWalking}
use Rattle.pass_replay.proofs.walk.+walk_nodes.Given as goal

abbrev pub decreases-walk_nodes : goal.decreases-walk_nodes
decreases-walk_nodes l = depth (stack_of l.nodes.now.vec.items)

abbrev pub invariant-loop-node : goal.invariant-loop-node
invariant-loop-node l =
    IsWalking l.kind (serving l.kind (answers_held (kept_answers l.follows)) replaying) (stack_of l.nodes.vec.items)
    l.fn.replay.at l.entry (state_in l.past l.told l.fn.replay)
    (stack_of (drop l.node-index l.node-items)) l.skip l.replay.at l.left l.opinion (state_in l.past l.told l.replay)
