use Rattle.std.proofs.Common.{arith}
use Rattle.handler_chain.proofs.Found.{view-count, view_answers}
use Rattle.handler_chain.proofs.chain.Chain.opens.Goals as goal

pub index-requires : goal.index-requires
index-requires c = omega (arith, c.requires, view-count _ _ _ _ _ _ c.self.view_is c.self.invariant)

pub returns-clause-value : goal.returns-clause-value
returns-clause-value c = (view_answers _ _ _ _ _ _ _ _ c.self.view_is c.self.invariant c.requires c.index.ensures).opens
