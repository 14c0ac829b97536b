-- How the fields of a rule are written (pam.conf(5); which of several ways is taken is this project's own).
use Rattle.std.specs.Prelude.{ℕ, ◌-◌, Bool, true, List, [], ◌∷◌, ◌++◌, length, slice_index, codes, ◌==◌, ◌||◌, if◌then◌else◌}
use Rattle.std.specs.List.{flat_map, list_any}
use Rattle.pam_base.specs.White.{is_white}

-- a field after another, after one space
abbrev pub after_space : List ℕ → List ℕ
after_space field = 32 ∷ field

-- fields with one space between them
abbrev pub spaced : List (List ℕ) → List ℕ
spaced [] = []
spaced (field ∷ fields) = field ++ flat_map after_space fields

-- the bytes that end a token without brackets (pam.conf(5))
abbrev pub ends_token : ℕ → Bool
ends_token b = is_white b || b == 35

-- whether a path or an argument is written in brackets: it is empty, begins with `[`, or holds white space or `#`
abbrev pub wants_brackets : List ℕ → Bool
wants_brackets [] = true
wants_brackets (b ∷ bs) = b == 91 || list_any ends_token (b ∷ bs)

-- in brackets `]` is written `\]` (pam.conf(5))
abbrev pub escaped_byte : ℕ → List ℕ
escaped_byte b = if b == 93 then 92 ∷ 93 ∷ [] else b ∷ []

abbrev pub in_brackets : List ℕ → List ℕ
in_brackets text = 91 ∷ (flat_map escaped_byte text ++ 93 ∷ [])

-- a path or an argument
unfoldable pub token_text : List ℕ → List ℕ
token_text text = if wants_brackets text then in_brackets text else text

-- whether the last byte of a line is this one
abbrev pub ends_in : ℕ → List ℕ → Bool
ends_in byte line = slice_index line (length line - 1) == byte

-- the end of a line; a backslash at its end has a space after it, so that it doesn't join the next
-- line (pam.conf(5))
abbrev pub line_end : List ℕ → List ℕ
line_end line = if ends_in 92 line then codes " \n" else codes "\n"

unfoldable pub ended : List ℕ → List ℕ
ended line = line ++ line_end line

-- the text of some lines
abbrev pub text_of : List (List ℕ) → List ℕ
text_of lines = flat_map ended lines
