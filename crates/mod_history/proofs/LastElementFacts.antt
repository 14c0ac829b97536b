-- The last of a list.
use Rattle.std.proofs.Common.{◌≡◌, suc, ◌-◌, List, [], ◌∷◌, length, None, slice_get, refl, ap, ◌∙◌, arith}
use Rattle.std.specs.List.{last_or}

pub last_get : {A : Type 0} (xs : List A) → slice_get xs (length xs - 1) ≡ last_or None xs
last_get [] = refl
last_get (x ∷ []) = refl
last_get (x ∷ y ∷ ys) = let next : length (x ∷ y ∷ ys) - 1 ≡ suc (length (y ∷ ys) - 1) = omega arith in ap (slice_get (x ∷ y ∷ ys)) next ∙ last_get (y ∷ ys)
