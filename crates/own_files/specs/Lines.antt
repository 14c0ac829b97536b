-- A user's own lines of a shadow file (shadow(5)).
use Rattle.std.specs.Prelude.{ℕ, Bool, false, if◌then◌else◌, List, [], ◌∷◌, ◌++◌}
use Rattle.std.specs.Str.{bytes_eq}
use Rattle.pam_base.specs.Lines.{lines_of}
use Rattle.pam_base.specs.Parts.{parts_of}

abbrev pub begins_with : List ℕ → List (List ℕ) → Bool
begins_with user [] = false
begins_with user (field ∷ fields) = bytes_eq field user

-- whether the first field of a line is this user: colons separate them
abbrev pub is_own : List ℕ → List ℕ → Bool
is_own user line = begins_with user (parts_of 58 line)

-- the lines of this user, each with a newline
abbrev pub own_of : List ℕ → List (List ℕ) → List ℕ
own_of user [] = []
own_of user (line ∷ lines) = if is_own user line then (line ++ 10 ∷ []) ++ own_of user lines
    else own_of user lines

unfoldable pub own_lines : List ℕ → List ℕ → List ℕ
own_lines user text = own_of user (lines_of text)
