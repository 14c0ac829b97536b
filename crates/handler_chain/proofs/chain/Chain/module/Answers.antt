use Rattle.std.proofs.Common.{arith}
use Rattle.handler_chain.proofs.Found.{view-count, view_answers}
use Rattle.handler_chain.proofs.chain.Chain.module.Goals as goal

pub index-requires : goal.index-requires
index-requires c = omega (arith, c.requires, view-count _ _ _ _ _ _ c.self.view_is c.self.invariant)

pub returns : goal.returns
returns c = (view_answers _ _ _ _ _ _ _ _ c.self.view_is c.self.invariant c.requires c.index.ensures).module_number
