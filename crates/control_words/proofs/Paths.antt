-- The last part of a path.
use Rattle.std.proofs.Common.{◌≡◌, ℕ, ◌+◌, Bool, true, false, ◌||◌, eqb, List, [], ◌∷◌, ◌++◌, length, ◌-◌, take, drop, Some, None, refl, ap, ◌∙◌, arith, length-drop}
use Rattle.std.proofs.lemmas.List.{take_all}
use Rattle.pam_base.specs.Bytes.{has_byte, IsFirstPlace}
use Rattle.control_words.specs.Module.{last_part}

or_true : (b : Bool) → (b || true) ≡ true
or_true true = refl
or_true false = refl

has-followed : (front more : List ℕ) → has_byte 47 (front ++ 47 ∷ more) ≡ true
has-followed [] more = refl
has-followed (b ∷ bs) more = ap (λ (t : Bool). eqb b 47 || t) (has-followed bs more) ∙ or_true (eqb b 47)

last_part-followed : (front more : List ℕ) → last_part (front ++ 47 ∷ more) ≡ last_part more
last_part-followed [] more = refl
last_part-followed (b ∷ bs) more = rw (has-followed (b ∷ bs) more) (last_part-followed bs more)

pub last_part-slash : (path : List ℕ) (n : ℕ) → IsFirstPlace (Some n) 47 path → last_part path ≡ last_part (drop (n + 1) path)
last_part-slash path n at = ap last_part at.2 ∙ last_part-followed (take n path) (drop (n + 1) path)

pub last_part-none : (path : List ℕ) → IsFirstPlace None 47 path → last_part path ≡ path
last_part-none [] e = refl
last_part-none (b ∷ bs) e = rw e refl

-- the part after a slash, as a slice to the end
pub last_part-rest : (path : List ℕ) (n : ℕ) → IsFirstPlace (Some n) 47 path → last_part path ≡ last_part (take (length path - (n + 1)) (drop (n + 1) path))
last_part-rest path n at =
    let all : take (length path - (n + 1)) (drop (n + 1) path) ≡ drop (n + 1) path = take_all (length path - (n + 1)) (drop (n + 1) path) (omega (arith, length-drop (n + 1) path)) in
    rw all (last_part-slash path n at)
