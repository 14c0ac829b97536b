-- Where words are cut.
use Rattle.std.proofs.Common.{◌≡◌, ℕ, zero, suc, ◌+◌, ◌-◌, ◌<◌, ◌≤◌, arith, slice_index, Bool, true, false, ◌||◌, eqb, eqb-true, if◌then◌else◌, List, [], ◌∷◌, ◌++◌, take, drop, length, Some, refl, sym, ◌∙◌, ap, subst, append_assoc}
use Rattle.std.specs.Prelude.{reverse}
use Rattle.std.proofs.lemmas.Grind.{common_steps}
use Rattle.std.proofs.Math.Seq.{drop-cons}
use Rattle.std.proofs.lemmas.List.{reverse-append, take-append-drop, drop_more}
use Rattle.pam_base.specs.Bytes.{has_byte, IsFirstPlace}
use Rattle.report_lines.specs.Words.{before_space, after_space, last_word, before_last}

pub neither : (a b : Bool) → (a || b) ≡ false → (a ≡ false) × (b ≡ false)
neither true b e = absurd (cc)
neither false b e = (refl, e)

pub before_space-word : (word rest : List ℕ) → has_byte 32 word ≡ false → before_space (word ++ 32 ∷ rest) ≡ word
before_space-word [] rest none = refl
before_space-word (b ∷ word) rest none =
    let both = neither (eqb b 32) (has_byte 32 word) none in
    ap (λ (c : Bool). if c then [] else b ∷ before_space (word ++ 32 ∷ rest)) both.0 ∙ ap (λ (w : List ℕ). b ∷ w) (before_space-word word rest both.1)

pub after_space-word : (word rest : List ℕ) → has_byte 32 word ≡ false → after_space (word ++ 32 ∷ rest) ≡ rest
after_space-word [] rest none = refl
after_space-word (b ∷ word) rest none =
    let both = neither (eqb b 32) (has_byte 32 word) none in
    ap (λ (c : Bool). if c then word ++ 32 ∷ rest else after_space (word ++ 32 ∷ rest)) both.0 ∙ after_space-word word rest both.1

pub before_space-all : (word : List ℕ) → has_byte 32 word ≡ false → before_space word ≡ word
before_space-all [] none = refl
before_space-all (b ∷ word) none =
    let both = neither (eqb b 32) (has_byte 32 word) none in
    ap (λ (c : Bool). if c then [] else b ∷ before_space word) both.0 ∙ ap (λ (w : List ℕ). b ∷ w) (before_space-all word both.1)

pub after_space-all : (word : List ℕ) → has_byte 32 word ≡ false → after_space word ≡ []
after_space-all [] none = refl
after_space-all (b ∷ word) none =
    let both = neither (eqb b 32) (has_byte 32 word) none in
    ap (λ (c : Bool). if c then word else after_space word) both.0 ∙ after_space-all word both.1

-- a text that has a space is what is around it
cut_if : (b : ℕ) (text : List ℕ) (c : Bool) → eqb b 32 ≡ c → (has_byte 32 text ≡ true → before_space text ++ 32 ∷ after_space text ≡ text) → (c || has_byte 32 text) ≡ true
    → (if c then [] else b ∷ before_space text) ++ 32 ∷ (if c then text else after_space text) ≡ b ∷ text
cut_if b text true is more has = ap (λ (n : ℕ). n ∷ text) (sym (eqb-true b 32 is))
cut_if b text false is more has = ap (λ (t : List ℕ). b ∷ t) (more has)

pub cut_again : (text : List ℕ) → has_byte 32 text ≡ true → before_space text ++ 32 ∷ after_space text ≡ text
cut_again [] has = absurd (cc)
cut_again (b ∷ text) has = cut_if b text (eqb b 32) refl (cut_again text) has

-- ---- at the first space

pub before-first : (text : List ℕ) (n : ℕ) → IsFirstPlace (Some n) 32 text → take n text ≡ before_space text
before-first text n first = sym (ap before_space first.2 ∙ before_space-word (take n text) (drop (n + 1) text) first.1)

pub the_rest-first : (text : List ℕ) (n : ℕ) → IsFirstPlace (Some n) 32 text → drop (n + 1) text ≡ after_space text
the_rest-first text n first = sym (ap after_space first.2 ∙ after_space-word (take n text) (drop (n + 1) text) first.1)

-- ---- at the last

pub has-append : (byte : ℕ) (one two : List ℕ) → has_byte byte one ≡ false → has_byte byte two ≡ false → has_byte byte (one ++ two) ≡ false
has-append byte [] two first second = second
has-append byte (b ∷ one) two first second =
    let both = neither (eqb b byte) (has_byte byte one) first in
    ap (λ (c : Bool). c || has_byte byte (one ++ two)) both.0 ∙ has-append byte one two both.1 second

pub has-reverse : (byte : ℕ) (text : List ℕ) → has_byte byte text ≡ false → has_byte byte (reverse text) ≡ false
has-reverse byte [] none = refl
has-reverse byte (b ∷ text) none =
    let both = neither (eqb b byte) (has_byte byte text) none in
    subst (λ (t : List ℕ). has_byte byte t ≡ false) (sym (reverse-append (b ∷ []) text))
    (has-append byte (reverse text) (b ∷ []) (has-reverse byte text both.1) (ap (λ (c : Bool). c || false) both.0))

pub twice : (xs : List ℕ) → reverse (reverse xs) ≡ xs
twice [] = refl
twice (x ∷ xs) = ap reverse (reverse-append (x ∷ []) xs) ∙ reverse-append (reverse xs) (x ∷ []) ∙ ap (λ (ys : List ℕ). x ∷ ys) (twice xs)

turned : (front word : List ℕ) → reverse (front ++ 32 ∷ word) ≡ reverse word ++ 32 ∷ reverse front
turned front word =
    reverse-append front (32 ∷ word) ∙ ap (λ (x : List ℕ). x ++ reverse front) (reverse-append (32 ∷ []) word) ∙ append_assoc (reverse word) (32 ∷ []) (reverse front)

pub last_word-cut : (front word : List ℕ) → has_byte 32 word ≡ false → last_word (front ++ 32 ∷ word) ≡ word
last_word-cut front word none =
    ap (λ (x : List ℕ). reverse (before_space x)) (turned front word) ∙ ap reverse (before_space-word (reverse word) (reverse front) (has-reverse 32 word none)) ∙ twice word

pub before_last-cut : (front word : List ℕ) → has_byte 32 word ≡ false → before_last (front ++ 32 ∷ word) ≡ front
before_last-cut front word none =
    ap (λ (x : List ℕ). reverse (after_space x)) (turned front word) ∙ ap reverse (after_space-word (reverse word) (reverse front) (has-reverse 32 word none)) ∙ twice front

pub last_word-all : (word : List ℕ) → has_byte 32 word ≡ false → last_word word ≡ word
last_word-all word none = ap reverse (before_space-all (reverse word) (has-reverse 32 word none)) ∙ twice word

pub before_last-all : (word : List ℕ) → has_byte 32 word ≡ false → before_last word ≡ []
before_last-all word none = ap reverse (after_space-all (reverse word) (has-reverse 32 word none))

-- ---- of a slice

pub rest_is : (xs : List ℕ) (k : ℕ) → take (length xs - k) (drop k xs) ≡ drop k xs
rest_is xs k = grind (arith, common_steps)

-- at the place after the last space
round : (text : List ℕ) (n : ℕ) → suc n ≤ length text → slice_index text n ≡ 32 → text ≡ take n text ++ 32 ∷ drop (suc n) text
round text n le here =
    let lt : n < length text = omega arith in
    sym (take-append-drop n text) ∙ ap (λ (x : List ℕ). take n text ++ x) (drop-cons text n 0 lt ∙ ap (λ (b : ℕ). b ∷ drop (suc n) text) here)

less_one : (n : ℕ) → suc n - 1 ≡ n
less_one n = omega arith

pub last_at : (text : List ℕ) (n : ℕ) → n ≤ length text → has_byte 32 (drop n text) ≡ false → (0 < n → slice_index text (n - 1) ≡ 32) → drop n text ≡ last_word text
last_at text zero le none space = sym (last_word-all text none)
last_at text (suc n) le none space = sym (ap last_word (round text n le (ap (slice_index text) (sym (less_one n)) ∙ space (omega arith))) ∙ last_word-cut (take n text) (drop (suc n) text) none)

pub before_at : (text : List ℕ) (n : ℕ) → n ≤ length text → has_byte 32 (drop n text) ≡ false → 0 < n → slice_index text (n - 1) ≡ 32 → take (n - 1) text ≡ before_last text
before_at text zero le none some space = absurd (omega arith)
before_at text (suc n) le none some space = ap (λ (k : ℕ). take k text) (less_one n) ∙ sym (ap before_last (round text n le (ap (slice_index text) (sym (less_one n)) ∙ space)) ∙ before_last-cut (take n text) (drop (suc n) text) none)

pub more_at : (text : List ℕ) (n : ℕ) → n < length text → eqb (slice_index text n) 32 ≡ false → has_byte 32 (drop (n + 1) text) ≡ false → has_byte 32 (drop n text) ≡ false
more_at text n lt here none = ap (has_byte 32) (drop_more text n 0 lt) ∙ ap (λ (c : Bool). c || has_byte 32 (drop (n + 1) text)) here ∙ none

pub before_none : (text : List ℕ) (n : ℕ) → n ≤ 0 → has_byte 32 (drop n text) ≡ false → [] ≡ before_last text
before_none text zero le none = sym (before_last-all text none)
before_none text (suc n) le none = absurd (omega arith)
