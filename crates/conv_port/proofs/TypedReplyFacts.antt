-- A reply is read byte by byte, up to its newline.
use Rattle.std.proofs.Common.{◌≡◌, ℕ, zero, suc, ◌+◌, ◌<◌, ◌≤◌, Bool, true, false, ◌||◌, Option, Some, None, List, [], ◌∷◌, ◌++◌, length, take, drop, refl, sym, ap, subst, ◌∙◌, arith, eqb, length-append}
use Rattle.std.specs.List.{before_first, after_first, position_or_len}
use Rattle.std.specs.Io.KnownBytes.{Consumes, IsAtEnd}
use Rattle.std.proofs.lemmas.List.{take-append-drop, append-nil}
use Rattle.pam_base.specs.Bytes.{has_byte}
use Rattle.conv_port.specs.Terminal.{is_newline, IsLine, TypesLine}

-- the line among the first n bytes, and what follows it
abbrev line : ℕ → List ℕ → List ℕ
line n bytes = before_first is_newline (take n bytes)

abbrev rest_after : ℕ → List ℕ → List ℕ
rest_after n bytes = after_first is_newline (take n bytes) ++ drop n bytes

neither : (a b : Bool) → (a || b) ≡ false → (a ≡ false) × (b ≡ false)
neither true b e = absurd cc
neither false b e = (refl, e)

before-cons : (b : ℕ) (xs : List ℕ) → is_newline b ≡ false → before_first is_newline (b ∷ xs) ≡ b ∷ before_first is_newline xs
before-cons b xs e = rw e (let one : 1 + position_or_len is_newline xs ≡ suc (position_or_len is_newline xs) = omega arith in ap (λ n. take n (b ∷ xs)) one)

after-cons : (b : ℕ) (xs : List ℕ) → is_newline b ≡ false → after_first is_newline (b ∷ xs) ≡ after_first is_newline xs
after-cons b xs e = rw e (let one : 1 + position_or_len is_newline xs + 1 ≡ suc (position_or_len is_newline xs + 1) = omega arith in ap (λ n. drop n (b ∷ xs)) one)

-- a text is the first line of some bytes, and others follow it
record IsCut (n : ℕ) (bytes text left : List ℕ) : Type 0 where
  line_is : line n bytes ≡ text
  past_is : rest_after n bytes ≡ left

one_more : (n b : ℕ) (bytes text left : List ℕ) → is_newline b ≡ false → IsCut n bytes text left → IsCut (suc n) (b ∷ bytes) (b ∷ text) left
one_more n b bytes text left e c = record {
  line_is = before-cons b (take n bytes) e ∙ ap (λ (xs : List ℕ). b ∷ xs) c.line_is;
  past_is = ap (λ (xs : List ℕ). xs ++ drop n bytes) (after-cons b (take n bytes) e) ∙ c.past_is;
}

-- at a newline
ended : (n : ℕ) (text more : List ℕ) → has_byte 10 text ≡ false → length text < n → IsCut n (text ++ 10 ∷ more) text more
ended zero text more plain lt = absurd (omega (arith, lt))
ended (suc n) [] more plain lt = record { line_is = refl; past_is = take-append-drop n more }
ended (suc n) (b ∷ text) more plain lt =
    let both = neither (eqb b 10) (has_byte 10 text) plain in
    one_more n b (text ++ 10 ∷ more) text more both.0 (ended n text more both.1 (omega (arith, lt)))

-- after n bytes
full : (text more : List ℕ) → has_byte 10 text ≡ false → IsCut (length text) (text ++ more) text more
full [] more plain = record { line_is = refl; past_is = refl }
full (b ∷ text) more plain =
    let both = neither (eqb b 10) (has_byte 10 text) plain in
    one_more (length text) b (text ++ more) text more both.0 (full text more both.1)

-- at the end
at_end : (n : ℕ) (text : List ℕ) → has_byte 10 text ≡ false → length text ≤ n → IsCut n text text []
at_end zero [] plain le = record { line_is = refl; past_is = refl }
at_end (suc n) [] plain le = record { line_is = refl; past_is = refl }
at_end zero (b ∷ text) plain le = absurd (omega (arith, le))
at_end (suc n) (b ∷ text) plain le =
    let both = neither (eqb b 10) (has_byte 10 text) plain in
    one_more n b text text [] both.0 (at_end n text both.1 (omega (arith, le)))

-- ---- if it is known what was typed

line_is : (text bytes left : List ℕ) → 0 < length bytes → IsCut 512 bytes text left → IsLine text bytes left
line_is text bytes left lt c = record { some = lt; text_is = sym c.line_is; left_is = sym c.past_is }

pub line_ended : (old now new : Option (List ℕ)) (text : List ℕ) (b : ℕ) → Consumes old now text → Consumes now new (b ∷ []) → b ≡ 10
    → has_byte 10 text ≡ false → length text < 512 → TypesLine text old new
line_ended None now new text b c d is plain lt = tt
line_ended (Some xs) None new text b c d is plain lt = absurd c
line_ended (Some xs) (Some ys) None text b c d is plain lt = absurd d
line_ended (Some xs) (Some ys) (Some zs) text b c d is plain lt =
    let whole : xs ≡ text ++ 10 ∷ zs = c ∙ ap (λ (rest : List ℕ). text ++ rest) (rw is at d) in
    rw whole (line_is text (text ++ 10 ∷ zs) zs (omega (arith, length-append text (10 ∷ zs))) (ended 512 text zs plain lt))

pub line_full : (old now : Option (List ℕ)) (text : List ℕ) → Consumes old now text → has_byte 10 text ≡ false → length text ≡ 512 → TypesLine text old now
line_full None now text c plain len = tt
line_full (Some xs) None text c plain len = absurd c
line_full (Some xs) (Some ys) text c plain len =
    rw c (line_is text (text ++ ys) ys (omega (arith, length-append text ys, len)) (subst (λ n. IsCut n (text ++ ys) text ys) len (full text ys plain)))

pub line_at_end : (old now new : Option (List ℕ)) (text : List ℕ) → Consumes old now text → Consumes now new [] → IsAtEnd new
    → has_byte 10 text ≡ false → length text ≤ 512 → 0 < length text → TypesLine text old new
line_at_end None now new text c d end plain le lt = tt
line_at_end (Some xs) None new text c d end plain le lt = absurd c
line_at_end (Some xs) (Some ys) None text c d end plain le lt = absurd d
line_at_end (Some xs) (Some ys) (Some zs) text c d end plain le lt =
    let whole : xs ≡ text = c ∙ ap (λ (rest : List ℕ). text ++ rest) (d ∙ end) ∙ append-nil text in
    rw (whole, end) (line_is text text [] lt (at_end 512 text plain le))

pub positive : (n : ℕ) → eqb n 0 ≡ false → 0 < n
positive zero e = absurd cc
positive (suc n) e = omega arith
