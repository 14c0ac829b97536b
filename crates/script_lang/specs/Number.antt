-- Numbers of the script (this project's own).
use Rattle.std.specs.Prelude.{ℕ, ◌+◌, ◌*◌, Bool, false, List, [], ◌∷◌, length, drop, Option, Some, None, nat_le, nat_lt, ◌==◌, ◌&&◌, fold, if◌then◌else◌}
use Rattle.std.specs.Char.{digit_value, is_digit}
use Rattle.std.specs.List.{list_all}

-- the value of digits of a radix, the highest first; letters are digits from ten on, in either case
abbrev pub value_of_digits : ℕ → List ℕ → ℕ
value_of_digits radix digits = fold (λ value digit. radix * value + digit_value digit) 0 digits

-- the value of a word of 1 to `most` digits of a radix; no other word has one
abbrev pub number_of_digits : ℕ → ℕ → List ℕ → Option ℕ
number_of_digits radix most word =
    if nat_lt 0 (length word) && nat_le (length word) most
    && list_all (λ digit. is_digit digit radix) word then Some (value_of_digits radix word)
    else None

-- whether a word begins with 0x
abbrev pub is_hexadecimal : List ℕ → Bool
is_hexadecimal [] = false
is_hexadecimal (a ∷ []) = false
is_hexadecimal (a ∷ b ∷ digits) = a == 48 && b == 120

-- a number up to a limit
abbrev pub at_most : ℕ → Option ℕ → Option ℕ
at_most limit None = None
at_most limit (Some number) = if nat_le number limit then Some number else None

-- 1 to 10 decimal digits, or 0x and 1 to 8 hexadecimal digits
abbrev pub any_number_of_word : List ℕ → Option ℕ
any_number_of_word word = if is_hexadecimal word then number_of_digits 16 8 (drop 2 word)
    else number_of_digits 10 10 word

-- a number of 32 bits
abbrev pub number_of_word : List ℕ → Option ℕ
number_of_word word = at_most 4294967295 (any_number_of_word word)

-- a random word of the clock: 1 to 19 decimal digits
abbrev pub random_of_word : List ℕ → Option ℕ
random_of_word word = number_of_digits 10 19 word

-- a time of the clock: 1 to 13 decimal digits, at most 10^12
abbrev pub moment_of_word : List ℕ → Option ℕ
moment_of_word word = at_most 1000000000000 (number_of_digits 10 13 word)
