-- The codes are in the order of their numbers.
use Rattle.std.proofs.Common.{◌≡◌, ℕ, zero, suc, ◌+◌, ◌<◌, Bool, true, false, ◌&&◌, List, [], ◌∷◌, length, get_or, refl, ◌∙◌, arith, eqb}
use Rattle.std.proofs.lemmas.Bool.{eqb-true}
use Rattle.pam_base.specs.declared.code.Code.{Code}
use Rattle.pam_base.specs.Code.{number_of, all_codes}

are_numbered_from : ℕ → List Code → Bool
are_numbered_from n [] = true
are_numbered_from n (code ∷ rest) = eqb (number_of code) n && are_numbered_from (suc n) rest

both : (a b : Bool) → (a && b) ≡ true → (a ≡ true) × (b ≡ true)
both true b e = (refl, e)
both false b e = absurd cc

number_at : (first : ℕ) (list : List Code) (i : ℕ) (none : Code) → are_numbered_from first list ≡ true → i < length list
    → number_of (get_or list i none) ≡ first + i
unfolding are_numbered_from
number_at first [] i none e lt = absurd (omega (arith, lt))
number_at first (c ∷ cs) zero none e lt = eqb-true _ _ (both (eqb (number_of c) first) (are_numbered_from (suc first) cs) e).0 ∙ omega arith
number_at first (c ∷ cs) (suc i) none e lt =
    number_at (suc first) cs i none (both (eqb (number_of c) first) (are_numbered_from (suc first) cs) e).1 (omega (arith, lt)) ∙ omega arith

pub number_of_code : (number : ℕ) (none : Code) → number < 32 → number_of (get_or all_codes number none) ≡ number
unfolding are_numbered_from
number_of_code number none lt = number_at 0 all_codes number none refl lt ∙ omega arith
