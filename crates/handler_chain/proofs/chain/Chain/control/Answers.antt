use Rattle.std.proofs.Common.{arith, ap, sym}
use Rattle.handler_chain.proofs.Found.{view-count, view_answers}
use Rattle.handler_chain.proofs.chain.Chain.control.Goals as goal
use Rattle.control_words.specs.declared.nodes.Rule.{Rule}

pub index-requires : goal.index-requires
index-requires c = omega (arith, c.requires, view-count _ _ _ _ _ _ c.self.view_is c.self.invariant)

pub returns : goal.returns
returns c = sym (ap (λ (r : Rule). r.control) (view_answers _ _ _ _ _ _ _ _ c.self.view_is c.self.invariant c.requires c.index.ensures).rule)
