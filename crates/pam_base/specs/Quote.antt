-- Quoted text (this project's own): printable ASCII is written as it is, a backslash is doubled, and any other byte is
-- written as \x and two hexadecimal digits.
use Rattle.std.specs.Prelude.{ℕ, ◌+◌, ◌/◌, ◌%◌, List, [], ◌∷◌, ◌++◌, codes, ◌==◌, ◌&&◌, nat_le, nat_lt, if◌then◌else◌}
use Rattle.std.specs.List.{flat_map}

abbrev pub hex_digit : ℕ → ℕ
hex_digit n = if nat_lt n 10 then n + 48 else n + 87

abbrev pub quoted_byte : ℕ → List ℕ
quoted_byte b =
    if b == 92 then codes "\\\\"
    else if nat_le 32 b && nat_le b 126 then b ∷ []
    else codes "\\x" ++ (hex_digit (b / 16) ∷ hex_digit (b % 16) ∷ [])

-- a number that isn't a byte counts modulo 256
abbrev pub quoted_rest : ℕ → List ℕ
quoted_rest b = quoted_byte (b % 256)

abbrev pub quoted_text : List ℕ → List ℕ
quoted_text bytes = flat_map quoted_rest bytes
