-- Taking the parts of a text one by one.
use Rattle.std.proofs.Common.{◌≡◌, ℕ, zero, suc, ◌+◌, ◌-◌, ◌<◌, Bool, true, false, ◌||◌, cond, List, [], ◌∷◌, ◌++◌, length, take, drop, slice_get, get_or, Option, Some, None, All, refl, sym, ap, ◌∙◌, arith, eqb, length-drop}
use Rattle.std.proofs.lemmas.List.{take_all}
use Rattle.std.proofs.lemmas.List.Elements.{All-from_get_or}
use Rattle.std.proofs.lemmas.List.Splits.{slice_split_at, slice_split_none}
use Rattle.std.proofs.lemmas.Bool.Decides.{nat_tests}
use Rattle.pam_base.specs.Bytes.{has_byte, IsFirstPlace}
use Rattle.pam_base.specs.Parts.{parts_of}

-- a slice from an index to the end
rest_is : (text : List ℕ) (n : ℕ) → take (length text - n) (drop n text) ≡ drop n text
rest_is text n = take_all (length text - n) (drop n text) (omega (arith, length-drop n text))

pub either : (a b : Bool) → (a || b) ≡ false → (a ≡ false) × (b ≡ false)
either true b e = absurd cc
either false b e = (refl, e)

lacks_at : (byte : ℕ) (text : List ℕ) → has_byte byte text ≡ false → (k : ℕ) → k < length text → eqb (get_or text k 0) byte ≡ false
lacks_at byte [] e k lt = absurd (omega arith)
lacks_at byte (b ∷ bs) e zero lt = (either (eqb b byte) (has_byte byte bs) e).0
lacks_at byte (b ∷ bs) e (suc k) lt = lacks_at byte bs (either (eqb b byte) (has_byte byte bs) e).1 k (omega arith)

lacks : (byte : ℕ) (text : List ℕ) → has_byte byte text ≡ false → All (λ b. eqb b byte ≡ false) text
lacks byte text e = All-from_get_or (λ b. eqb b byte ≡ false) text 0 (lacks_at byte text e)

same : (n : ℕ) → eqb n n ≡ true
same n = grind (arith, nat_tests)

-- what is left of a text whose parts are taken one by one
abbrev pub parts_left : ℕ → Bool → List ℕ → List (List ℕ)
parts_left separator ended rest = cond ended [] (parts_of separator rest)

pub parts_of-first : (separator : ℕ) (part more : List ℕ) → has_byte separator part ≡ false
    → parts_of separator (part ++ separator ∷ more) ≡ part ∷ parts_of separator more
unfolding parts_of
parts_of-first separator part more e = slice_split_at (λ b. eqb b separator) part separator more (lacks separator part e) (same separator)

pub parts_of-last : (separator : ℕ) (part : List ℕ) → has_byte separator part ≡ false → parts_of separator part ≡ part ∷ []
unfolding parts_of
parts_of-last separator part e = slice_split_none (λ b. eqb b separator) part (lacks separator part e)

module _ (separator : ℕ) (rest : List ℕ) (ended : Bool) (left : List (List ℕ)) (is : parts_left separator ended rest ≡ left) (more : ended ≡ false) where
  parts_are : left ≡ parts_of separator rest
  parts_are = sym is ∙ ap (λ (e : Bool). parts_left separator e rest) more

  module _ (n : ℕ) (at : IsFirstPlace (Some n) separator rest) where
    cut_there : left ≡ take n rest ∷ parts_of separator (drop (n + 1) rest)
    cut_there = parts_are ∙ ap (parts_of separator) at.2 ∙ parts_of-first separator (take n rest) (drop (n + 1) rest) at.1

    pub first_part : ◌≡◌ {A = Option (List ℕ)} (Some (take n rest)) (slice_get left 0)
    first_part = rw cut_there refl

    pub first_part_left : parts_left separator ended (take (length rest - (n + 1)) (drop (n + 1) rest)) ≡ drop 1 left
    first_part_left = rw (rest_is, more, cut_there) refl

  module _ (none : IsFirstPlace None separator rest) where
    pub last_part : ◌≡◌ {A = Option (List ℕ)} (Some rest) (slice_get left 0)
    last_part = rw (parts_are, parts_of-last separator rest none) refl

    pub last_part_left : [] ≡ drop 1 left
    last_part_left = rw (parts_are, parts_of-last separator rest none) refl
