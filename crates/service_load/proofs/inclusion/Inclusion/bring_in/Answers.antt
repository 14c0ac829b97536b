use Rattle.std.proofs.Common.{◌∙◌, ap}
use Rattle.control_words.specs.Stack.{stack_of, none}
use Rattle.service_load.proofs.NodeListFacts.{node_on-Sub, stack_of-append}
use Rattle.service_load.proofs.inclusion.Inclusion.bring_in.Goals as goal

pub returns-then-self : goal.returns-then-self
returns-then-self c = rw c.if-self.true (rw (node_on-Sub c.args.inner none) at c.push.ensures.ok)

pub returns : goal.returns
returns c = rw c.if-self.false (ap stack_of c.in_ok-append.ensures.items ∙ stack_of-append c.args.nodes.now.vec.items c.args.inner.vec.items)
