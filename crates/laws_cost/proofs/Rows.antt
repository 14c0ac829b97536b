-- The texts of a hash, computed over a function that returns two given bytes.
use Rattle.std.specs.Prelude.{◌≡◌, ℕ, List, [], ◌∷◌, ◌++◌, codes, refl}
use Rattle.laws_cost.specs.Digests.{noted_mixed, noted_rounds}

-- "BC", of which B is 66
abbrev constant : List ℕ → List ℕ
constant text = codes "BC"

texts_of : List ℕ → List ℕ → ℕ → List (List ℕ)
unfolding noted_mixed noted_rounds
texts_of key salt rounds = (noted_mixed constant key salt rounds).texts

-- B, A (the key has the digits 11), P, and 82 times the salt
four_first : texts_of (codes "key") [] 0 ≡ codes "keykey" ∷ codes "keyBCBBCBC" ∷ codes "keykeykey" ∷ [] ∷ []
unfolding texts_of
four_first = refl

-- the rounds 0, 1, 2 and 3, where P and Q are "B"
with_rounds : texts_of (codes "k") (codes "s") 4 ≡ texts_of (codes "k") (codes "s") 0
    ++ codes "BCB" ∷ codes "BBBBC" ∷ codes "BCBBB" ∷ codes "BBBC" ∷ []
unfolding texts_of
with_rounds = refl
