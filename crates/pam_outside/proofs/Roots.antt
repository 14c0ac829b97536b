-- A root without the slashes at its end.
use Rattle.std.proofs.Common.{◌≡◌, ℕ, suc, ◌-◌, Bool, true, false, ◌&&◌, eqb, List, [], ◌∷◌, ◌++◌, length, take, drop, refl, sym, ap, ◌∙◌, arith}
use Rattle.std.specs.Cmp.Lexicographic.{pointwise}
use Rattle.std.specs.List.{list_all}
use Rattle.std.proofs.lemmas.List.{take-append-drop}
use Rattle.std.proofs.lemmas.Slice.Eq.{bytes_eq-Decides}
use Rattle.pam_outside.specs.Paths.{root_before}

-- a slash at the end changes nothing
all-slash : (front : List ℕ) → list_all (λ c. eqb c 47) (front ++ 47 ∷ []) ≡ list_all (λ c. eqb c 47) front
all-slash [] = refl
all-slash (b ∷ bs) = ap (λ (t : Bool). eqb b 47 && t) (all-slash bs)

root_before-slash : (front : List ℕ) → root_before (front ++ 47 ∷ []) ≡ root_before front
root_before-slash [] = refl
root_before-slash (b ∷ bs) = rw (all-slash (b ∷ bs), root_before-slash bs) refl

-- without a slash at the end it stays as it is
last_is : List ℕ → Bool
last_is [] = false
last_is (b ∷ []) = eqb b 47
last_is (b ∷ c ∷ bs) = last_is (c ∷ bs)

and_true : (b : Bool) → (b && true) ≡ b
and_true true = refl
and_true false = refl

ends-last_is : (root : List ℕ) → pointwise eqb (drop (length root - 1) root) (47 ∷ []) ≡ last_is root
unfolding last_is
ends-last_is [] = refl
ends-last_is (b ∷ []) = and_true (eqb b 47)
ends-last_is (b ∷ c ∷ bs) =
    let e : length (b ∷ c ∷ bs) - 1 ≡ suc (length bs) = omega arith in
    let f : length (c ∷ bs) - 1 ≡ length bs = omega arith in
    rw e (rw f at (ends-last_is (c ∷ bs)))

and_false : (b : Bool) → (b && false) ≡ false
and_false true = refl
and_false false = refl

some-other : (b : ℕ) (bs : List ℕ) → last_is (b ∷ bs) ≡ false → list_all (λ c. eqb c 47) (b ∷ bs) ≡ false
unfolding last_is
some-other b [] e = rw e refl
some-other b (c ∷ bs) e = ap (λ (t : Bool). eqb b 47 && t) (some-other c bs e) ∙ and_false (eqb b 47)

root_before-other : (root : List ℕ) → last_is root ≡ false → root_before root ≡ root
unfolding last_is
root_before-other [] e = refl
root_before-other (b ∷ []) e = rw e refl
root_before-other (b ∷ c ∷ bs) e = rw (some-other b (c ∷ bs) e) (ap (λ (x : List ℕ). b ∷ x) (root_before-other (c ∷ bs) e))

pub cut_slash : (root front : List ℕ) → pointwise eqb (drop (length root - 1) root) (47 ∷ []) ≡ true → front ≡ take (length root - 1) root
    → root_before root ≡ root_before front
cut_slash root front e f =
    let last : drop (length root - 1) root ≡ 47 ∷ [] = (bytes_eq-Decides _ _).0 e in
    let parts : front ++ 47 ∷ [] ≡ root = rw (f, ← last) (take-append-drop (length root - 1) root) in
    sym (ap root_before parts) ∙ root_before-slash front

pub no_slash : (root : List ℕ) → pointwise eqb (drop (length root - 1) root) (47 ∷ []) ≡ false → root_before root ≡ root
no_slash root e = root_before-other root (sym (ends-last_is root) ∙ e)
