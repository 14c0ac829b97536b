-- A new hash in the shadow file (shadow(5), passwd(1)).
use Rattle.std.specs.Prelude.{◌≡◌, true, ◌++◌, ℕ, if◌then◌else◌, List, [], ◌∷◌, drop, Some, Result, Ok, Err, decimal}
use Rattle.std.specs.List.{join_with_byte}
use Rattle.std.specs.Str.{bytes_eq}
use Rattle.account_db.specs.declared.fault.DbFault.{DbFault}
use Rattle.account_db.specs.declared.shadow.Shadow.{Shadow}
use Rattle.pam_base.specs.Parts.{parts_of}
use Rattle.account_db.specs.Parts.{field, fields_of}
use Rattle.account_db.specs.Entries.{is_line_of}
use Rattle.account_db.specs.Shadow.{shadows_of}

-- a line with this hash and this day of the last change, its second and third field
unfoldable pub changed_line : List ℕ → ℕ → List ℕ → List ℕ
changed_line hash day line =
    join_with_byte 58 (field 0 line ∷ hash ∷ decimal day ∷ drop 3 (fields_of line))

-- the first line of the user is changed, and the other lines stay
abbrev pub changed_lines : List ℕ → List ℕ → ℕ → List (List ℕ) → List (List ℕ)
changed_lines user hash day [] = []
changed_lines user hash day (line ∷ lines) =
    if is_line_of user line then changed_line hash day line ∷ lines
    else line ∷ changed_lines user hash day lines

-- the text with that line changed, between the same newlines
unfoldable pub with_hash : List ℕ → List ℕ → ℕ → List ℕ → List ℕ
with_hash user hash day text = join_with_byte 10 (changed_lines user hash day (parts_of 10 text))

abbrev pub unless_faulty_file : Result (List Shadow) DbFault → List ℕ → Result (List ℕ) DbFault
unless_faulty_file (Ok entries) text = Ok text
unless_faulty_file (Err fault) text = Err fault

-- the new text, or the first line at fault
abbrev pub hash_replaced : List ℕ → List ℕ → ℕ → List ℕ → Result (List ℕ) DbFault
hash_replaced user hash day text =
    unless_faulty_file (shadows_of text) (with_hash user hash day text)

-- an entry with this hash and this day of the last change
abbrev pub renewed : List ℕ → ℕ → Shadow → Shadow
renewed hash day entry = record entry { hash = hash; last_change = Some day }

-- the first entry of the user is changed, and the other entries stay
abbrev pub changed_entries : List ℕ → List ℕ → ℕ → List Shadow → List Shadow
changed_entries user hash day [] = []
changed_entries user hash day (entry ∷ entries) =
    if bytes_eq entry.name user then renewed hash day entry ∷ entries
    else entry ∷ changed_entries user hash day entries

-- A line of the user was changed, and everything before and after it stayed.
pub record Placed (user hash : List ℕ) (day : ℕ) (old new : List ℕ) : Type 0 where
  pub front : List ℕ
  pub line : List ℕ
  pub back : List ℕ
  pub is_users : is_line_of user line ≡ true
  pub old_is : old ≡ front ++ line ++ back
  pub new_is : new ≡ front ++ changed_line hash day line ++ back
