-- The return codes that a text names (this project's own): names with commas between them, `any`,
-- or, after a `!`, all others. INCOMPLETE is never one of them: with it no run has ended.
use Rattle.std.specs.Prelude.{ℕ, Bool, true, false, ◌&&◌, not, nat_eq, if◌then◌else◌, List, [], ◌∷◌}
use Rattle.std.specs.Prelude.{Some, None, codes, replicate}
use Rattle.std.specs.List.{list_all, list_any}
use Rattle.std.specs.Str.{bytes_eq}
use Rattle.pam_base.specs.declared.code.Code.{Code}
use Rattle.pam_base.specs.declared.code.Code.TheVariants.{Incomplete}
use Rattle.pam_base.specs.Code.{code_of_word, number_of}
use Rattle.pam_base.specs.Parts.{parts_of}

abbrev pub is_same : Code → Code → Bool
is_same a b = nat_eq (number_of a) (number_of b)

abbrev pub is_incomplete : Code → Bool
is_incomplete Incomplete = true
is_incomplete code = false

-- whether a word is the name of a code, in any case
abbrev pub is_code : List ℕ → Bool
is_code word = elim (code_of_word word) [
  | Some code ↦ true
  | None ↦ false
]

-- whether it is the name of this one
abbrev pub is_named : Code → List ℕ → Bool
is_named code word = elim (code_of_word word) [
  | Some named ↦ is_same code named
  | None ↦ false
]

-- whether one of the words between commas names the code
abbrev pub lists : List ℕ → Code → Bool
lists text code = list_any (is_named code) (parts_of 44 text)

abbrev pub all_named : List ℕ → Bool
all_named text = list_all is_code (parts_of 44 text)

-- whether the first byte is a `!`, and what follows it
abbrev pub named_but : List ℕ → Bool
named_but [] = all_named []
named_but (b ∷ bs) = if nat_eq b 33 then all_named bs else all_named (b ∷ bs)

-- whether a text names codes
abbrev pub are_codes : List ℕ → Bool
are_codes text = if bytes_eq text (codes "any") then true else named_but text

abbrev pub listed_but : List ℕ → Code → Bool
listed_but [] code = lists [] code
listed_but (b ∷ bs) code = if nat_eq b 33 then not (lists bs code) else lists (b ∷ bs) code

-- whether a text wants a code
abbrev pub wanted : List ℕ → Code → Bool
wanted text code = if bytes_eq text (codes "any") then true else listed_but text code

abbrev pub may : List ℕ → Code → Bool
may text code = not (is_incomplete code) && wanted text code

-- SUCCESS alone, or none
abbrev pub yes_codes : Bool → List Bool
yes_codes counted = counted ∷ replicate 31 false
