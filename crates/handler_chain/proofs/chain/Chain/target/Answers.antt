use Rattle.std.proofs.Common.{length, arith, ◌<◌, ◌+◌, Some, ◌∙◌, ap}
use Rattle.std.proofs.lemmas.List.{get_or_read}
use Rattle.handler_chain.proofs.Found.{view-count, view_answers}
use Rattle.handler_chain.proofs.chain.Chain.target.Goals as goal
use Rattle.handler_chain.proofs.chain.Chain.target.Goals.{then-n-line, else-n-line}

pub index-line-requires : goal.index-line-requires
index-line-requires c = omega (arith, c.requires, view-count _ _ _ _ _ _ c.self.view_is c.self.invariant)

pub overflow_add-line : goal.overflow_add-line
overflow_add-line c = omega (arith, (view_answers _ _ _ _ _ _ _ _ c.self.view_is c.self.invariant c.requires c.index-line.ensures).room)

pub index-requires : goal.index-requires
index-requires c = omega (arith, (view_answers _ _ _ _ _ _ _ _ c.self.view_is c.self.invariant c.requires c.index-line.ensures).room)

pub returns-clause-value : goal.returns-clause-value
returns-clause-value c =
    let a = view_answers _ _ _ _ _ _ _ _ c.self.view_is c.self.invariant c.requires c.index-line.ensures in
    elim c.if-n-line.branch [
      | then-n-line w ↦
          let within : c.index-line.result.now.past_end + c.args.n < length c.self.inside.positions.items = omega (arith, a.room, w.if-n-line.true) in
          w.target-is ∙ ap (λ n. Some n) (get_or_read c.self.inside.positions.items _ _ within w.index.ensures 0) ∙ a.near c.args.n w.if-n-line.true
      | else-n-line w ↦ w.target-is ∙ a.far c.args.n w.if-n-line.false
    ]
