-- The first position of a byte.
use Rattle.std.proofs.Common.{◌≡◌, ℕ, zero, suc, ◌+◌, ◌<◌, Bool, true, false, cond, eqb, List, [], ◌∷◌, length, get_or, Option, Some, None, refl, sym, ap, arith}
use Rattle.std.specs.List.{position, position_or_len}
use Rattle.std.proofs.lemmas.Bool.{eqb-true, ltb-false}
use Rattle.std.proofs.lemmas.List.Quantifiers.{position-Some}
use Rattle.std.proofs.lemmas.List.Sums.{fails_before_first}
use Rattle.pam_base.specs.Bytes.{has_byte, IsFirstPlace}

not_some : (b : Bool) (i : ℕ) → cond b (Some i) None ≡ None → b ≡ false
not_some true i e = absurd cc
not_some false i e = refl

none_of : (byte : ℕ) (text : List ℕ) → ((k : ℕ) → k < length text → eqb (get_or text k 0) byte ≡ false) → has_byte byte text ≡ false
none_of byte [] h = refl
none_of byte (b ∷ bs) h =
    let first : eqb b byte ≡ false = h 0 (omega arith) in
    rw first (none_of byte bs (λ k lt. h (suc k) (omega arith)))

first_at : (byte : ℕ) (text : List ℕ) (n : ℕ) → n < length text → eqb (get_or text n 0) byte ≡ true
    → ((k : ℕ) → k < n → eqb (get_or text k 0) byte ≡ false) → IsFirstPlace (Some n) byte text
first_at byte [] n lt here before = absurd (omega arith)
first_at byte (b ∷ bs) zero lt here before = (lt, refl, ap (λ (x : ℕ). x ∷ bs) (eqb-true b byte here))
first_at byte (b ∷ bs) (suc n) lt here before =
    let rest = first_at byte bs n (omega arith) here (λ k le. before (suc k) (omega arith)) in
    let first : eqb b byte ≡ false = before 0 (omega arith) in
    let k : suc n + 1 ≡ suc (n + 1) = omega arith in
    (lt, rw first rest.1, rw k (ap (λ (x : List ℕ). b ∷ x) rest.2))

pub is_first_place : (byte : ℕ) (text : List ℕ) (r : Option ℕ) → r ≡ position (λ b. eqb b byte) text → IsFirstPlace r byte text
is_first_place byte text None e =
    let past = ltb-false (position_or_len (λ b. eqb b byte) text) (length text) (not_some _ _ (sym e)) in
    none_of byte text (λ k lt. fails_before_first (λ b. eqb b byte) text k 0 (omega (arith, past)))
is_first_place byte text (Some n) e =
    let at = position-Some (λ b. eqb b byte) text n 0 (sym e) in
    first_at byte text n at.0 at.1 at.2
