use Rattle.std.proofs.Common.{◌+◌, List, ap, arith}
use Rattle.control_words.specs.declared.nodes.Node.{Node}
use Rattle.control_words.specs.Stack.{lines_in, stack_of}
use Rattle.pass_replay.proofs.RestOfStackFacts.{lines_sub}
use Rattle.explain_calls.proofs.WalkRowFacts.{over_node_sub}
use Rattle.explain_calls.proofs.walk.pass_over_node.Goals as goal

pub pass_over-requires : goal.pass_over-requires
pass_over-requires c = record {
  few = omega (
    arith,
    lines_sub _ _ c.in-Sub.is,
    ap (λ (ns : List Node). lines_in (stack_of ns)) c.items.ensures,
    c.requires.few,
  );
}

pub returns-in-Sub-clause-shows : goal.returns-in-Sub-clause-shows
returns-in-Sub-clause-shows c = rw (over_node_sub c.args.why (c.args.at + 1) c.args.node.now c.in-Sub.inner c.in-Sub.is)
    (rw c.items.ensures at c.pass_over.ensures.shows)

pub returns-in-Sub-clause-at : goal.returns-in-Sub-clause-at
returns-in-Sub-clause-at c = rw (lines_sub c.args.node.now c.in-Sub.inner c.in-Sub.is) (rw c.items.ensures at c.pass_over.ensures.at)
