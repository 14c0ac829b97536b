-- One more character of a number.
use Rattle.std.proofs.Common.{◌≡◌, ℕ, suc, ◌+◌, ◌-◌, ◌<◌, ◌/◌, ◌%◌, List, [], ◌∷◌, ◌++◌, get_or, ◌∙◌, arith, append_assoc}
use Rattle.sha_crypt.specs.Characters.{alphabet, characters}

pub character_more : (n i number : ℕ) (before whole : List ℕ) → i < n → before ++ characters (n - i) number ≡ whole
    → (before ++ get_or alphabet (number % 64) 0 ∷ []) ++ characters (n - (i + 1)) (number / 64) ≡ whole
character_more n i number before whole lt e =
    let k : n - i ≡ suc (n - (i + 1)) = omega arith in
    append_assoc before (get_or alphabet (number % 64) 0 ∷ []) (characters (n - (i + 1)) (number / 64))
    ∙ (rw k at e)
