use Rattle.std.proofs.Common.{arith, ◌∙◌}
use Rattle.std.proofs.lemmas.List.{get_or_read}
use Rattle.handler_chain.proofs.Found.{view-count, view_answers}
use Rattle.handler_chain.proofs.chain.Chain.end.Goals as goal

pub index-line-requires : goal.index-line-requires
index-line-requires c = omega (arith, c.requires, view-count _ _ _ _ _ _ c.self.view_is c.self.invariant)

pub overflow_add-line : goal.overflow_add-line
overflow_add-line c = omega (arith, (view_answers _ _ _ _ _ _ _ _ c.self.view_is c.self.invariant c.requires c.index-line.ensures).room)

pub index-end-requires : goal.index-end-requires
index-end-requires c = omega (arith, (view_answers _ _ _ _ _ _ _ _ c.self.view_is c.self.invariant c.requires c.index-line.ensures).room)

pub returns-clause-value : goal.returns-clause-value
returns-clause-value c = let a = view_answers _ _ _ _ _ _ _ _ c.self.view_is c.self.invariant c.requires c.index-line.ensures in get_or_read c.self.inside.positions.items _ _ a.room c.index-end.ensures 0 ∙ a.end
