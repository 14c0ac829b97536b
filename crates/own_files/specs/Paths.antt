-- The files that the group shadow may read, by their paths (this project's own).
use Rattle.std.specs.Prelude.{ℕ, Bool, false, ◌||◌, List, [], ◌∷◌, codes, nat_eq}
use Rattle.std.specs.List.{starts_with}
use Rattle.std.specs.Str.{bytes_eq}

-- the shadow file itself (shadow(5))
abbrev pub is_shadow : List ℕ → Bool
is_shadow path = bytes_eq path (codes "/etc/shadow")

-- whether the word stands anywhere in a path
abbrev pub is_of_shadow : List ℕ → Bool
is_of_shadow [] = false
is_of_shadow (b ∷ bs) = starts_with nat_eq (b ∷ bs) (codes "shadow") || is_of_shadow bs
