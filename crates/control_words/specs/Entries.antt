-- The entries of a bracketed control (pam.conf(5): `[value1=action1 value2=action2 ...]`). What
-- white space is, where it is allowed and where a name and an action end are this project's own
-- rules.
use Rattle.std.specs.Prelude.{ℕ, zero, suc, ◌-◌, Bool, true, false, List, [], ◌∷◌, length, drop, ◌==◌, ◌||◌, not, if◌then◌else◌}
use Rattle.std.specs.List.{position_or_len, before_first}
use Rattle.pam_base.specs.White.{is_white}

-- a name runs up to white space or `=` (this project's own)
abbrev pub ends_name : ℕ → Bool
ends_name byte = is_white byte || byte == 61

-- any other byte (this project's own)
abbrev pub is_other : ℕ → Bool
is_other byte = not (is_white byte)

-- a text from the first byte on that passes the test, or nothing if none does (this project's own)
abbrev pub from_first : (ℕ → Bool) → List ℕ → List ℕ
from_first test text = drop (position_or_len test text) text

-- an entry as it is written (pam.conf(5)); without a `=`, its action is empty (this project's own)
pub record ControlPair : Type 0 where
  pub name : List ℕ
  pub action : List ℕ

-- the entry at the beginning of a text, and what follows it (this project's own)
pub record FirstEntry : Type 0 where
  pub entry : ControlPair
  pub rest : List ℕ

-- a text without the white space at its beginning (this project's own)
abbrev pub after_space : List ℕ → List ℕ
after_space text = from_first is_other text

-- an action runs up to white space (this project's own)
abbrev pub with_action : List ℕ → List ℕ → FirstEntry
with_action name text =
    record {
      entry = record { name = name; action = before_first is_white text };
      rest = from_first is_white text;
    }

-- after its name an entry has `=` and its action (pam.conf(5)), with white space on both sides of `=` (this
-- project's own)
abbrev pub with_name : List ℕ → List ℕ → FirstEntry
with_name name [] = record { entry = record { name = name; action = [] }; rest = [] }
with_name name (b ∷ bs) = if b == 61 then with_action name (after_space bs)
    else record { entry = record { name = name; action = [] }; rest = b ∷ bs }

-- the first entry of a text that begins with no white space (this project's own)
abbrev pub first_entry : List ℕ → FirstEntry
first_entry text = with_name (before_first ends_name text)
    (after_space (from_first ends_name text))

-- the entries after the first n bytes of a text, which were skipped; white space separates entries
-- (pam.conf(5))
unfoldable pub entries_after : ℕ → List ℕ → List ControlPair
entries_after passed [] = []
entries_after (suc passed) (b ∷ bs) = entries_after passed bs
entries_after zero (b ∷ bs) = elim (is_white b) [
  | true ↦ entries_after zero bs
  | false ↦ (first_entry (b ∷ bs)).entry
      ∷ entries_after (length bs - length (first_entry (b ∷ bs)).rest) bs
]

-- the entries of a text, all of them (pam.conf(5))
unfoldable pub entries_in : List ℕ → List ControlPair
entries_in text = entries_after 0 text
