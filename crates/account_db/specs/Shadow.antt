-- The shadow file (shadow(5)): name, hash, the day of the last change, the minimum and the maximum age of a password,
-- the days of warning before it expires and of grace after that, the day on which the account expires, and a reserved
-- field.
use Rattle.std.specs.Prelude.{◌≡◌, ℕ, Bool, true, false, ◌==◌, ◌&&◌, nat_le, if◌then◌else◌, List, length, Option, Some, None, Result}
use Rattle.std.specs.Char.{is_ascii_digit}
use Rattle.std.specs.List.{find, list_all}
use Rattle.std.specs.Str.{bytes_eq}
use Rattle.pam_base.specs.Number.{number_of_word}
use Rattle.account_db.specs.declared.fault.DbFault.{DbFault}
use Rattle.account_db.specs.declared.shadow.Shadow.{Shadow}
use Rattle.account_db.specs.Parts.{field, fields_of}
use Rattle.account_db.specs.Entries.{entries_of}

-- a number of days has at most nine digits; an empty field has no number
abbrev pub is_days : List ℕ → Bool
is_days word = nat_le (length word) 9 && list_all is_ascii_digit word

-- whether the six fields after the hash are numbers of days
abbrev pub are_days : List ℕ → Bool
are_days line = is_days (field 2 line) && is_days (field 3 line) && is_days (field 4 line)
    && is_days (field 5 line) && is_days (field 6 line) && is_days (field 7 line)

-- a line has nine fields
abbrev pub shadow_with : List ℕ → Shadow
shadow_with line = record {
  name = field 0 line;
  hash = field 1 line;
  last_change = number_of_word (field 2 line);
  min = number_of_word (field 3 line);
  max = number_of_word (field 4 line);
  warn = number_of_word (field 5 line);
  inactive = number_of_word (field 6 line);
  expire = number_of_word (field 7 line);
  reserved = field 8 line;
}

abbrev pub shadow_in : List ℕ → Option Shadow
shadow_in line = if length (fields_of line) == 9 && are_days line then Some (shadow_with line)
    else None

-- the name of an entry is the first field of its line
by_size : (b : Bool) (line : List ℕ) (entry : Shadow)
    → (if b then Some (shadow_with line) else None) ≡ Some entry → entry.name ≡ field 0 line
by_size true line entry e = cc
by_size false line entry e = cc

pub shadow_named : (line : List ℕ) (entry : Shadow) → shadow_in line ≡ Some entry
    → entry.name ≡ field 0 line
shadow_named line entry e = by_size (length (fields_of line) == 9 && are_days line) line entry e

-- the entries of the file, or the first line at fault
abbrev pub shadows_of : List ℕ → Result (List Shadow) DbFault
shadows_of text = entries_of shadow_in text

-- a user's entry: the first with that name
abbrev pub shadow_of : List ℕ → List Shadow → Option Shadow
shadow_of user entries = find (λ (s : Shadow). bytes_eq s.name user) entries
