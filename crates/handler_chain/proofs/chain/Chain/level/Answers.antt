use Rattle.std.proofs.Common.{arith}
use Rattle.handler_chain.proofs.Found.{view-count, view_answers}
use Rattle.handler_chain.proofs.chain.Chain.level.Goals as goal

pub index-requires : goal.index-requires
index-requires c = omega (arith, c.requires, view-count _ _ _ _ _ _ c.self.view_is c.self.invariant)

pub returns-clause-value : goal.returns-clause-value
returns-clause-value c = (view_answers _ _ _ _ _ _ _ _ c.self.view_is c.self.invariant c.requires c.index.ensures).level

pub returns-clause-bounded : goal.returns-clause-bounded
returns-clause-bounded c = (view_answers _ _ _ _ _ _ _ _ c.self.view_is c.self.invariant c.requires c.index.ensures).deep

pub returns-clause-opens : goal.returns-clause-opens
returns-clause-opens c = let a = view_answers _ _ _ _ _ _ _ _ c.self.view_is c.self.invariant c.requires c.index.ensures in omega (arith, a.opens, a.shallow)
