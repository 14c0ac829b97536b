-- The arguments of a module's line (pam.conf(5)).
use Rattle.std.specs.Prelude.{ℕ, Bool, List, Option, None, if◌then◌else◌, length, nat_le}
use Rattle.std.specs.List.{list_any}
use Rattle.std.specs.Str.{bytes_eq}
use Rattle.pam_base.specs.Number.{number_of_word}

-- whether a word is among the arguments
abbrev pub has_argument : List ℕ → List (List ℕ) → Bool
has_argument word args = list_any (λ arg. bytes_eq arg word) args

-- the number that a word gives, if it has no more than this many digits
abbrev pub short_number : ℕ → List ℕ → Option ℕ
short_number digits word = if nat_le (length word) digits then number_of_word word else None
