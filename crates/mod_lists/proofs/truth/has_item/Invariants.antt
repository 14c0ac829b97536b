use Rattle.std.proofs.Common.{◌≡◌, ℕ, List, length}
use Rattle.std.specs.List.{list_any}
use Rattle.std.specs.Str.{bytes_eq}
use Rattle.mod_lists.specs.Condition.{items_of}
use Rattle.mod_lists.proofs.truth.has_item.Given as goal

abbrev pub invariant-loop-item : goal.invariant-loop-item
invariant-loop-item l = list_any (λ (item : List ℕ). bytes_eq item l.text) l.items ≡ list_any (λ (item : List ℕ). bytes_eq item l.text) (items_of l.list)

abbrev pub decreases-loop-item : goal.decreases-loop-item
decreases-loop-item l = length l.items
