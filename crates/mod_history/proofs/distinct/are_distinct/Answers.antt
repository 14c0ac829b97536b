use Rattle.std.proofs.Common.{◌∙◌}
use Rattle.mod_history.proofs.Neighbours.{alike}
use Rattle.mod_history.proofs.distinct.are_distinct.Goals as goal

pub returns : goal.returns
returns c =
    let same = alike c.args.history.now _ _ c.in_ok-names_of.ensures c.in_order-names.ensures.same c.in_order-names.ensures.order in
    (rw c.deref.ensures.value at c.neighbours_differ.ensures) ∙ same
