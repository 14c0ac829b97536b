-- A number written in decimal digits is read as itself.
use Rattle.std.proofs.Common.{◌≡◌, ℕ, ◌+◌, ◌*◌, ◌/◌, ◌%◌, ◌^◌, ◌<◌, ◌≤◌, Bool, true, false, List, [], ◌∷◌, ◌++◌, length, Some, decimal, refl, sym, ap, ◌∙◌, arith, eqb}
use Rattle.std.proofs.lemmas.Bool.{lt-ltb, le-ltb, le-leb, ne_eqb, and_parts, and_right}
use Rattle.std.proofs.lemmas.Fmt.{decimal_by_steps, decimal_nonempty, length-decimal-le}
use Rattle.std.proofs.lemmas.List.Folds.{list_all-append}
use Rattle.std.proofs.lemmas.List.Sums.{fold-append}
use Rattle.std.specs.Char.{digit_value, is_digit}
use Rattle.std.specs.List.{list_all}
use Rattle.pam_base.specs.Bytes.{has_byte}
use Rattle.script_lang.specs.Number.{value_of_digits, number_of_digits, is_hexadecimal, number_of_word}

digit_value-digit : (d : ℕ) → d < 10 → digit_value (48 + d) ≡ d
digit_value-digit d lt = rw (le-ltb (48 + d) 48 (omega arith), lt-ltb (48 + d) 58 (omega arith)) (omega arith)

is_digit-digit : (d : ℕ) → d < 10 → is_digit (48 + d) 10 ≡ true
is_digit-digit d lt = rw (digit_value-digit d lt) (lt-ltb d 10 lt)

are_digits : List ℕ → Bool
are_digits digits = list_all (λ digit. is_digit digit 10) digits

record Writes (n : ℕ) (digits : List ℕ) : Type 0 where
  all : are_digits digits ≡ true
  value : value_of_digits 10 digits ≡ n

one_digit : (n : ℕ) → n < 10 → Writes n ((48 + n) ∷ [])
unfolding are_digits
one_digit n lt = record { all = rw (is_digit-digit n lt) refl; value = rw (digit_value-digit n lt) (omega arith) }

one_more : (n : ℕ) (digits : List ℕ) → 10 ≤ n → Writes (n / 10) digits → Writes n (digits ++ ((48 + n % 10) ∷ []))
unfolding are_digits
one_more n digits le w =
    let small : n % 10 < 10 = omega arith in
    record {
      all = list_all-append (λ digit. is_digit digit 10) digits ((48 + n % 10) ∷ []) ∙ rw (w.all, is_digit-digit (n % 10) small) refl;
      value =
          fold-append (λ (value digit : ℕ). 10 * value + digit_value digit) 0 digits ((48 + n % 10) ∷ [])
          ∙ ap (λ (value : ℕ). 10 * value + digit_value (48 + n % 10)) w.value
          ∙ ap (λ (digit : ℕ). 10 * (n / 10) + digit) (digit_value-digit (n % 10) small)
          ∙ omega arith;
    }

writes : (n : ℕ) → n < 2 ^ 64 → Writes n (decimal n)
writes n lt = decimal_by_steps Writes one_digit one_more n lt

-- ---- what that means for the words of a line

digit_not : (byte x : ℕ) → is_digit x 10 ≡ true → is_digit byte 10 ≡ false → eqb x byte ≡ false
digit_not byte x one none = ne_eqb x byte (λ e. let both : ◌≡◌ {A = Bool} true false = sym one ∙ ap (λ (b : ℕ). is_digit b 10) e ∙ none in cc)

-- digits contain no other byte
lacks_byte : (byte : ℕ) (digits : List ℕ) → is_digit byte 10 ≡ false → are_digits digits ≡ true → has_byte byte digits ≡ false
unfolding are_digits
lacks_byte byte [] none e = refl
lacks_byte byte (d ∷ ds) none e =
    let both = and_parts (is_digit d 10) (are_digits ds) e in
    rw (digit_not byte d both.0 none) (lacks_byte byte ds none both.1)

not_hexadecimal : (digits : List ℕ) → are_digits digits ≡ true → is_hexadecimal digits ≡ false
unfolding are_digits
not_hexadecimal [] e = refl
not_hexadecimal (a ∷ []) e = refl
not_hexadecimal (a ∷ b ∷ ds) e =
    let both = and_parts (is_digit b 10) (are_digits ds) (and_parts (is_digit a 10) (are_digits (b ∷ ds)) e).1 in
    and_right (eqb a 48) (eqb b 120) (digit_not 120 b both.0 refl)

module _ (n : ℕ) (small : n < 2 ^ 32) where
  written : Writes n (decimal n)
  written = writes n (omega arith)

  pub decimal-space : has_byte 32 (decimal n) ≡ false
  decimal-space = lacks_byte 32 (decimal n) refl written.all

  value : number_of_digits 10 10 (decimal n) ≡ Some n
  unfolding are_digits
  value =
      let some : 0 < length (decimal n) = decimal_nonempty n (omega arith) in
      let few : length (decimal n) ≤ 10 = length-decimal-le 10 n (omega arith) (omega arith) (omega arith) in
      rw (lt-ltb 0 (length (decimal n)) some, le-leb (length (decimal n)) 10 few, written.all, written.value) refl

  -- a number of 32 bits is read as itself
  pub number_of_word-decimal : number_of_word (decimal n) ≡ Some n
  number_of_word-decimal = rw (not_hexadecimal (decimal n) written.all, value, le-leb n 4294967295 (omega arith)) refl
