-- Numbers in decimal digits (this project's own: 1 to 10 digits, at most 32 bits).
use Rattle.std.specs.Prelude.{ℕ, ◌+◌, ◌-◌, ◌*◌, ◌^◌, Bool, List, length, Option, Some, None, nat_le, nat_lt, ◌&&◌, fold, if◌then◌else◌}
use Rattle.std.specs.Char.{is_ascii_digit}
use Rattle.std.specs.List.{list_all}

-- the value of digits, the highest first
abbrev pub value_of_digits : List ℕ → ℕ
value_of_digits digits = fold (λ value digit. 10 * value + (digit - 48)) 0 digits

-- whether the word has the form of a number
abbrev pub is_numeral : List ℕ → Bool
is_numeral word = nat_lt 0 (length word) && nat_le (length word) 10 && list_all is_ascii_digit word

-- the number that a word means, if it is one
abbrev pub number_of_word : List ℕ → Option ℕ
number_of_word word = if is_numeral word && nat_lt (value_of_digits word) (2 ^ 32)
    then Some (value_of_digits word) else None
