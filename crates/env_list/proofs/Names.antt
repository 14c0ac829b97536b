-- Whether two names are the same.
use Rattle.std.proofs.Common.{◌≡◌, ◌≢◌, ℕ, Bool, true, false, ◌||◌, List, refl}
use Rattle.std.specs.Str.{bytes_eq}
use Rattle.std.proofs.lemmas.Slice.Eq.{bytes_eq-Decides}

-- if neither test passes
pub none_of_parts : (one other : Bool) → one || other ≡ false → (one ≡ false) × (other ≡ false)
none_of_parts true other none = absurd cc
none_of_parts false other none = (refl, none)

pub same_name : (name other : List ℕ) → bytes_eq name other ≡ true → name ≡ other
same_name name other e = (bytes_eq-Decides name other).0 e

pub own_name : (name : List ℕ) → bytes_eq name name ≡ true
own_name name = (bytes_eq-Decides name name).1 refl

pub other_name : (name other : List ℕ) → name ≢ other → bytes_eq name other ≡ false
other_name name other differ = by (bytes_eq name other) refl
  where
    by : (b : Bool) → bytes_eq name other ≡ b → bytes_eq name other ≡ false
    by true e = absurd (differ (same_name name other e))
    by false e = e
