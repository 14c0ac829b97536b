-- The numbers that words mean.
use Rattle.std.proofs.Common.{◌≡◌, ℕ, zero, suc, ◌+◌, ◌-◌, ◌*◌, ◌/◌, ◌%◌, ◌<◌, ◌≤◌, ◌^◌, Bool, true, false, ◌&&◌, ◌||◌, nat_le, eqb, List, [], ◌∷◌, ◌++◌, length, replicate, refl, sym, ◌∙◌, ap, subst, arith, ne_eqb}
use Rattle.std.specs.Char.{digit_value, is_ascii_digit}
use Rattle.std.specs.List.{list_all}
use Rattle.std.specs.Fmt.{decimal, digits}
use Rattle.std.specs.Str.Parse.{AllDigits, digits_value_after}
use Rattle.std.specs.Prelude.{fold}
use Rattle.std.proofs.Math.Nat.{mod-eq_of_lt}
use Rattle.std.proofs.lemmas.Bool.{and_parts}
use Rattle.std.proofs.lemmas.Bool.Decides.{nat_tests}
use Rattle.std.proofs.lemmas.Fmt.{decimal_by_steps, digits_is_IsNumeral}
use Rattle.std.proofs.lemmas.List.Folds.{list_all-append}
use Rattle.std.proofs.lemmas.List.Sums.{fold-append}
use Rattle.pam_base.specs.Bytes.{has_byte}
use Rattle.report_lines.specs.Line.{number_words, status_words}
use Rattle.report_lines.specs.Words.{guessed_number, guessed_status}
use Rattle.report_lines.proofs.WordCutFacts.{has-append}

-- ---- decimal digits

digit_is : (n : ℕ) → n < 10 → is_ascii_digit (48 + n) ≡ true
digit_is n lt = grind (arith, nat_tests)

lacks_if : (b c : ℕ) → b < 48 → nat_le 48 c ≡ true → eqb c b ≡ false
lacks_if b c lt le = grind (arith, nat_tests)

-- no digit has a byte below that of 0
pub digits_lack : (b : ℕ) (word : List ℕ) → b < 48 → list_all is_ascii_digit word ≡ true → has_byte b word ≡ false
digits_lack b [] lt all = refl
digits_lack b (c ∷ word) lt all =
    let both = and_parts (is_ascii_digit c) (list_all is_ascii_digit word) all in
    let here = and_parts (nat_le 48 c) (nat_le c 57) both.0 in
    ap (λ (x : Bool). x || has_byte b word) (lacks_if b c lt here.0) ∙ digits_lack b word lt both.1

-- a word of decimal digits that mean a number
pub record Writes (n : ℕ) (word : List ℕ) : Type 0 where
  pub all : list_all is_ascii_digit word ≡ true
  pub value : n < 2 ^ 64 → guessed_number word ≡ n

one_digit : (n : ℕ) → n < 10 → Writes n ((48 + n) ∷ [])
one_digit n lt = record {
  all = ap (λ (x : Bool). x && true) (digit_is n lt);
  value = λ small. let same : 0 + (48 + n - 48) ≡ n = omega arith in ap (λ (x : ℕ). x % 2 ^ 64) same ∙ mod-eq_of_lt small;
}

one_more : (n : ℕ) (word : List ℕ) → 10 ≤ n → Writes (n / 10) word → Writes n (word ++ ((48 + n % 10) ∷ []))
one_more n word le w = record {
  all =
      let last : n % 10 < 10 = omega arith in
      list_all-append is_ascii_digit word ((48 + n % 10) ∷ []) ∙ ap (λ (x : Bool). x && (is_ascii_digit (48 + n % 10) && true)) w.all ∙ ap (λ (x : Bool). x && true) (digit_is (n % 10) last);
  value = λ small.
      let few : n / 10 < 2 ^ 64 = omega arith in
      let tens : n / 10 * 10 % 2 ^ 64 ≡ n / 10 * 10 = mod-eq_of_lt (omega arith) in
      let same : n / 10 * 10 + (48 + n % 10 - 48) ≡ n = omega arith in
      fold-append (λ (value digit : ℕ). (value * 10 % 2 ^ 64 + (digit - 48)) % 2 ^ 64) 0 word ((48 + n % 10) ∷ [])
      ∙ ap (λ (v : ℕ). (v * 10 % 2 ^ 64 + (48 + n % 10 - 48)) % 2 ^ 64) (w.value few)
      ∙ ap (λ (x : ℕ). (x + (48 + n % 10 - 48)) % 2 ^ 64) tens ∙ ap (λ (x : ℕ). x % 2 ^ 64) same ∙ mod-eq_of_lt small;
}

-- and its position in a line
pub record Numeral (n : ℕ) (word : List ℕ) : Type 0 where
  pub all : list_all is_ascii_digit word ≡ true
  pub value : guessed_number word ≡ n
  pub one : has_byte 32 word ≡ false
  pub line : has_byte 10 word ≡ false

pub writes : (n : ℕ) → n < 2 ^ 64 → Numeral n (decimal n)
writes n lt =
    let w : Writes n (decimal n) = decimal_by_steps Writes one_digit one_more n lt in
    let space : 32 < 48 = omega arith in
    let newline : 10 < 48 = omega arith in
    record { all = w.all; value = w.value lt; one = digits_lack 32 (decimal n) space w.all; line = digits_lack 10 (decimal n) newline w.all }

pub numbered : (n : ℕ) → n < 2 ^ 64 → Numeral n (number_words n)
numbered n lt = subst (λ (m : ℕ). Numeral n (decimal m)) (sym (mod-eq_of_lt lt)) (writes n lt)

-- ---- a status in hexadecimal digits

grows : (ds : List ℕ) (n : ℕ) → n ≤ digits_value_after 16 n ds
grows [] n = omega arith
grows (c ∷ ds) n = let more : n * 16 + digit_value c ≤ digits_value_after 16 (n * 16 + digit_value c) ds = grows ds (n * 16 + digit_value c) in omega arith

same_value : (ds : List ℕ) (n : ℕ) → digits_value_after 16 n ds < 2 ^ 32 → fold (λ (value digit : ℕ). (value * 16 % 2 ^ 32 + digit_value digit) % 2 ^ 32) n ds ≡ digits_value_after 16 n ds
same_value [] n lt = refl
same_value (c ∷ ds) n lt =
    let more : n * 16 + digit_value c ≤ digits_value_after 16 (n * 16 + digit_value c) ds = grows ds (n * 16 + digit_value c) in
    let here : n * 16 + digit_value c < 2 ^ 32 = omega arith in
    let tens : n * 16 % 2 ^ 32 ≡ n * 16 = mod-eq_of_lt (omega arith) in
    let whole : (n * 16 + digit_value c) % 2 ^ 32 ≡ n * 16 + digit_value c = mod-eq_of_lt here in
    ap (λ (v : ℕ). fold (λ (value digit : ℕ). (value * 16 % 2 ^ 32 + digit_value digit) % 2 ^ 32) v ds) (ap (λ (x : ℕ). (x + digit_value c) % 2 ^ 32) tens ∙ whole)
    ∙ same_value ds (n * 16 + digit_value c) lt

zeros : (k : ℕ) (ds : List ℕ) → guessed_status (replicate k 48 ++ ds) ≡ guessed_status ds
zeros zero ds = refl
zeros (suc k) ds = zeros k ds

hexes_lack : (b : ℕ) (ds : List ℕ) → 16 ≤ digit_value b → AllDigits 16 ds → has_byte b ds ≡ false
hexes_lack b [] lacks all = refl
hexes_lack b (c ∷ ds) lacks all =
    let here : eqb c b ≡ false = ne_eqb c b (λ e. let small : digit_value b < 16 = subst (λ (x : ℕ). digit_value x < 16) e all.0 in omega arith) in
    ap (λ (x : Bool). x || has_byte b ds) here ∙ hexes_lack b ds lacks all.1

zeros_lack : (b k : ℕ) → eqb 48 b ≡ false → has_byte b (replicate k 48) ≡ false
zeros_lack b zero lacks = refl
zeros_lack b (suc k) lacks = ap (λ (x : Bool). x || has_byte b (replicate k 48)) lacks ∙ zeros_lack b k lacks

pub record Status (status : ℕ) (word : List ℕ) : Type 0 where
  pub value : guessed_status word ≡ status
  pub one : has_byte 32 word ≡ false
  pub line : has_byte 10 word ≡ false

pub status_read : (status : ℕ) → status < 2 ^ 32 → Status status (status_words status)
status_read status lt =
    let whole : status % 2 ^ 32 ≡ status = mod-eq_of_lt lt in
    let is = digits_is_IsNumeral 16 false (omega arith) (omega arith) (status % 2 ^ 32) (omega arith) in
    let ds : List ℕ = digits 16 false (status % 2 ^ 32) in
    let few : digits_value_after 16 0 ds < 2 ^ 32 = subst (λ (x : ℕ). x < 2 ^ 32) (sym (is.1 ∙ whole)) lt in
    record {
      value = zeros (8 - length ds) ds ∙ same_value ds 0 few ∙ is.1 ∙ whole;
      one = has-append 32 (replicate (8 - length ds) 48) ds (zeros_lack 32 (8 - length ds) refl) (hexes_lack 32 ds (omega arith) is.0.1);
      line = has-append 10 (replicate (8 - length ds) 48) ds (zeros_lack 10 (8 - length ds) refl) (hexes_lack 10 ds (omega arith) is.0.1);
    }
