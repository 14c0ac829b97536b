use Rattle.std.proofs.Common.{◌∙◌}
use Rattle.mod_lists.proofs.Ordered.{listed_alike}
use Rattle.mod_lists.proofs.pam_listfile.is_listed.Goals as goal

pub returns : goal.returns
returns c = (rw c.deref.ensures.value at c.has_line.ensures) ∙ listed_alike c.args.values c.in_order-values.result.items c.args.text.now c.in_order-values.ensures.same
