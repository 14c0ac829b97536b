-- The position of a byte in a text.
use Rattle.std.specs.Prelude.{◌≡◌, ℕ, ◌+◌, ◌<◌, Bool, false, List, ◌∷◌, ◌++◌, length, take, drop, Option, Some, None, ◌==◌}
use Rattle.std.specs.List.{list_any}

-- whether the byte occurs in the text
abbrev pub has_byte : ℕ → List ℕ → Bool
has_byte byte text = list_any (λ b. b == byte) text

-- the position of the byte's first occurrence, from 0, or None if it doesn't occur
abbrev pub IsFirstPlace : Option ℕ → ℕ → List ℕ → Type 0
IsFirstPlace (Some n) byte text = (n < length text) × (has_byte byte (take n text) ≡ false)
    × (text ≡ take n text ++ byte ∷ drop (n + 1) text)
IsFirstPlace None byte text = has_byte byte text ≡ false
