-- How a tally file spells where a failure came from (this project's own): printable ASCII is written as it is, a
-- backslash is doubled, and any other byte, the space too, is written as \x and two lower-case
-- hexadecimal digits. Each byte has only this spelling.
--
-- What a spelling means, in steps:
--   `unspelled`, `past_backslash`, `after_x`: byte by byte
--   `byte_of_digits`: the byte of two digits
use Rattle.std.specs.Prelude.{ℕ, ◌+◌, ◌-◌, ◌*◌, ◌/◌, ◌%◌, Bool, ◌==◌, ◌&&◌, nat_le, if◌then◌else◌, List, [], ◌∷◌, ◌++◌, codes, Option, Some, None}
use Rattle.std.specs.List.{flat_map}
use Rattle.pam_base.specs.Quote.{hex_digit}

abbrev pub is_printed : ℕ → Bool
is_printed b = nat_le 33 b && nat_le b 126

abbrev pub spelled_byte : ℕ → List ℕ
spelled_byte b =
    if b == 92 then codes "\\\\"
    else if is_printed b then b ∷ []
    else codes "\\x" ++ (hex_digit (b / 16) ∷ hex_digit (b % 16) ∷ [])

-- the spelling of a source
abbrev pub spelled : List ℕ → List ℕ
spelled source = flat_map spelled_byte source

-- ---- what a spelling means

-- one more byte before the others, if both exist
abbrev pub put_before : {A : Type 0} → Option A → Option (List A) → Option (List A)
put_before None xs = None
put_before (Some x) None = None
put_before (Some x) (Some xs) = Some (x ∷ xs)

abbrev pub printed : ℕ → Option ℕ
printed b = if is_printed b then Some b else None

abbrev pub hex_value : ℕ → Option ℕ
hex_value b = if nat_le 48 b && nat_le b 57 then Some (b - 48) else if nat_le 97 b && nat_le b 102
    then Some (b - 87) else None

-- a byte that is its own spelling isn't spelled by its digits
abbrev pub byte_of_digits : Option ℕ → Option ℕ → Option ℕ
byte_of_digits (Some high) (Some low) = if is_printed (16 * high + low) then None
    else Some (16 * high + low)
byte_of_digits (Some high) None = None
byte_of_digits None low = None

unfoldable mutual
  -- the source that this spells, if it spells one
  pub unspelled : List ℕ → Option (List ℕ)
  unspelled [] = Some []
  unspelled (b ∷ bs) = if b == 92 then past_backslash bs else put_before (printed b) (unspelled bs)

  pub past_backslash : List ℕ → Option (List ℕ)
  past_backslash [] = None
  past_backslash (b ∷ bs) = if b == 92 then put_before (Some 92) (unspelled bs)
      else if b == 120 then after_x bs else None

  pub after_x : List ℕ → Option (List ℕ)
  after_x [] = None
  after_x (high ∷ []) = None
  after_x (high ∷ low ∷ bs) = put_before (byte_of_digits (hex_value high) (hex_value low)) (unspelled bs)
