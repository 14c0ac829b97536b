-- Which lines have the form of an entry of shadow(5), whatever the path of their file (this project's own).
use Rattle.std.specs.Prelude.{ℕ, ◌+◌, ◌==◌, Bool, ◌&&◌, ◌||◌, List, [], ◌∷◌, nat_le, nat_lt}
use Rattle.std.specs.List.{list_all, list_any}
use Rattle.pam_base.specs.Lines.{lines_of}
use Rattle.pam_base.specs.Parts.{parts_of}

abbrev pub is_digit : ℕ → Bool
is_digit b = nat_le 48 b && nat_le b 57

-- digits, or nothing
abbrev pub is_number : List ℕ → Bool
is_number field = list_all is_digit field

-- the third to the eighth field are numbers, or empty: `before` fields come before this one
abbrev pub may_follow : ℕ → List ℕ → Bool
may_follow before field = (nat_lt before 2 || before == 8) || (nat_lt before 8 && is_number field)

-- fields that complete an entry of nine, after so many
abbrev pub complete : ℕ → List (List ℕ) → Bool
complete before [] = before == 9
complete before (field ∷ fields) = may_follow before field && complete (before + 1) fields

abbrev pub is_entry : List ℕ → Bool
is_entry line = complete 0 (parts_of 58 line)

-- whether one of the lines is one
abbrev pub has_entry : List ℕ → Bool
has_entry text = list_any is_entry (lines_of text)
