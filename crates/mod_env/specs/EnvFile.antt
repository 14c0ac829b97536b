-- The file of environment(5): NAME=VALUE on each line.
use Rattle.std.specs.Prelude.{ℕ, Bool, ◌==◌, ◌&&◌, ◌||◌, ◌-◌, nat_lt, nat_eq, if◌then◌else◌, List, [], ◌∷◌, ◌++◌, length, take, drop, Option, Some, None, codes}
use Rattle.std.specs.Char.{is_ascii_alphanumeric}
use Rattle.std.specs.List.{ends_with, filter_map, list_all, starts_with}
use Rattle.pam_base.specs.Bytes.{has_byte}
use Rattle.pam_base.specs.Lines.{lines_of}
use Rattle.env_list.specs.Environment.{name_in, value_in}
use Rattle.mod_env.specs.Conf.{without_leading_white}

abbrev pub is_name_byte : ℕ → Bool
is_name_byte b = is_ascii_alphanumeric b || b == 95

-- a name has letters, digits and underscores, one or more
abbrev pub is_name : List ℕ → Bool
is_name text = nat_lt 0 (length text) && list_all is_name_byte text

-- a text without the quotes around it
abbrev pub without_last : ℕ → List ℕ → List ℕ → List ℕ
without_last quote inner whole =
    if ends_with nat_eq inner (quote ∷ []) then take (length inner - 1) inner else whole

abbrev pub without_quotes : ℕ → List ℕ → List ℕ
without_quotes quote text =
    if starts_with nat_eq text (quote ∷ []) then without_last quote (drop 1 text) text else text

-- one pair of quotes around the whole value is removed
abbrev pub unquoted : List ℕ → List ℕ
unquoted text = if starts_with nat_eq text (34 ∷ []) then without_quotes 34 text
    else without_quotes 39 text

-- `export` and one space may come first
abbrev pub without_export : List ℕ → List ℕ
without_export text = if starts_with nat_eq text (codes "export ") then drop 7 text else text

abbrev pub assignment_at : List ℕ → Option (List ℕ)
assignment_at text =
    if has_byte 61 text && is_name (name_in text)
    then Some (name_in text ++ 61 ∷ unquoted (value_in text)) else None

-- what a line sets, as an argument of pam_putenv(3); other lines, comments too, are skipped
abbrev pub assignment_in : List ℕ → Option (List ℕ)
assignment_in line = assignment_at (without_export (without_leading_white line))

-- what the lines of a text set, in order
unfoldable pub assignments_of : List ℕ → List (List ℕ)
assignments_of text = filter_map assignment_in (lines_of text)
