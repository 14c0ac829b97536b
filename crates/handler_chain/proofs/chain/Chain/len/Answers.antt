use Rattle.std.proofs.Common.{◌≡◌, length, arith, rules, ◌∙◌}
use Rattle.handler_chain.proofs.Found.{flat-count, view-count}
use Rattle.handler_chain.proofs.chain.Chain.len.Goals as goal

pub returns-clause-counted : goal.returns-clause-counted
returns-clause-counted c = let all : c.len.result ≡ length c.self.inside.lines.items = search rules in all ∙ view-count _ _ _ _ _ _ c.self.view_is c.self.invariant

pub returns-clause-bounded : goal.returns-clause-bounded
returns-clause-bounded c = omega (arith, c.len.ensures, flat-count _ _ _ _ c.self.invariant, c.self.invariant.few)
