-- The IDs of a process in the text of /proc/self/status (proc(5)).
use Rattle.std.specs.Prelude.{ℕ, nat_eq, Bool, false, ◌&&◌, List, [], ◌∷◌, drop, Option, Some, None}
use Rattle.std.specs.List.{find}
use Rattle.std.specs.Str.{bytes_eq}
use Rattle.pam_base.specs.Lines.{lines_of}
use Rattle.pam_base.specs.Number.{number_of_word}
use Rattle.pam_base.specs.Parts.{parts_of}
use Rattle.who_calls.specs.declared.ids.Ids.{Ids}

-- the process has no rights but those of one user, or group
abbrev pub are_one : Ids → Bool
are_one ids = nat_eq ids.real ids.effective && nat_eq ids.real ids.saved

abbrev pub are_root : Ids → Bool
are_root ids = nat_eq ids.real 0 && (nat_eq ids.effective 0 && nat_eq ids.saved 0)

-- tabs separate the parts of a line; the first is its name
abbrev pub begins_with : List ℕ → List (List ℕ) → Bool
begins_with name [] = false
begins_with name (part ∷ parts) = bytes_eq part name

abbrev pub is_line_of : List ℕ → List ℕ → Bool
is_line_of name line = begins_with name (parts_of 9 line)

abbrev pub first_number : List (List ℕ) → Option ℕ
first_number [] = None
first_number (part ∷ parts) = number_of_word part

abbrev pub three : Option ℕ → Option ℕ → Option ℕ → Option Ids
three (Some real) (Some effective) (Some saved) =
    Some (record { real = real; effective = effective; saved = saved })
three real effective saved = None

-- the first three numbers after the name: the real, the effective and the saved ID
abbrev pub ids_of : List (List ℕ) → Option Ids
ids_of parts = three (first_number (drop 1 parts)) (first_number (drop 1 (drop 1 parts)))
    (first_number (drop 1 (drop 1 (drop 1 parts))))

abbrev pub ids_of_line : Option (List ℕ) → Option Ids
ids_of_line None = None
ids_of_line (Some line) = ids_of (parts_of 9 line)

-- those on the first line with this name
abbrev pub ids_in : List ℕ → List ℕ → Option Ids
ids_in status name = ids_of_line (find (is_line_of name) (lines_of status))
