-- A report of several lines grows by the line of the next item.
use Rattle.std.proofs.Common.{◌≡◌, ℕ, ◌+◌, ◌<◌, List, ◌++◌, length, get_or, take, arith}
use Rattle.std.specs.List.{flat_map}
use Rattle.std.proofs.lemmas.List.{take_more}
use Rattle.std.proofs.lemmas.Grind.{common_steps, flat_map-append}

line_added : {T : Type 0} (line : T → List ℕ) (items : List T) (i : ℕ) (item : T) → item ≡ get_or items i item → i < length items
    → flat_map line (take (i + 1) items) ≡ flat_map line (take i items) ++ line item
line_added line items i item is below = rw (take_more items i item below) (grind (arith, common_steps, flat_map-append))

-- after the text from before, `text` has the report so far, and `grown` also the next item's line
pub line_joined : {T : Type 0} (line : T → List ℕ) (items : List T) (i : ℕ) (item : T) (before text grown : List ℕ) → item ≡ get_or items i item
    → i < length items → text ≡ before ++ flat_map line (take i items) → grown ≡ text ++ line item
    → grown ≡ before ++ flat_map line (take (i + 1) items)
line_joined line items i item before text grown is below so_far joined =
    rw (line_added line items i item is below, joined, so_far) (grind (arith, common_steps))
