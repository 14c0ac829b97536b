use Rattle.std.proofs.Common.{rules, is_lt, nat_cmp}
use Rattle.std.specs.Cmp.Lexicographic.{slice_cmp}
use Rattle.std.proofs.lemmas.Cmp.{nat_list_cmp_total}
use Rattle.std.proofs.lemmas.List.Sorted.{answers_always, ranks_by}
use Rattle.mod_history.proofs.distinct.in_order.Goals as goal

pub returns-clause-order : goal.returns-clause-order
returns-clause-order c =
    c.sort_unstable_by.ensures.sorted (λ v w. is_lt (slice_cmp nat_cmp v w)) (ranks_by nat_list_cmp_total (λ v. v)) (answers_always _ _ _ (λ f a r g called. search rules))
