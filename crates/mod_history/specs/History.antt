-- The history file of pam_pwhistory(8), which has the hashes of each user's earlier passwords. Its form is this project's
-- own; opasswd has more fields.
use Rattle.std.specs.Prelude.{◌≡◌, ℕ, Bool, true, false, ◌&&◌, not, if◌then◌else◌, List, [], ◌∷◌, ◌++◌, Option, Some, None, Result, Ok, Err}
use Rattle.std.specs.List.{AllByRecursion, flat_map, list_any}
use Rattle.std.specs.Str.{bytes_eq}
use Rattle.pam_base.specs.Bytes.{has_byte}
use Rattle.pam_base.specs.Lines.{lines_of}
use Rattle.pam_base.specs.Parts.{parts_of}
use Rattle.pam_base.specs.declared.fault.Refuse.{Refuse}
use Rattle.pam_base.specs.declared.fault.Refuse.TheVariants.{NoMemory, Named}
use Rattle.mod_history.specs.declared.history.Damaged.{Damaged}
use Rattle.mod_history.specs.declared.history.Remembered.{Remembered}

-- one more element before the others, if both exist
abbrev pub put_before : {A : Type 0} → Option A → Option (List A) → Option (List A)
put_before None xs = None
put_before (Some x) None = None
put_before (Some x) (Some xs) = Some (x ∷ xs)

-- what each text has, if each is well formed
abbrev pub all_in : {A : Type 0} → (List ℕ → Option A) → List (List ℕ) → Option (List A)
all_in form [] = Some []
all_in form (t ∷ ts) = put_before (form t) (all_in form ts)

-- ---- a line

-- a name, and a hash, isn't empty
abbrev pub part_in : List ℕ → Option (List ℕ)
part_in [] = None
part_in (b ∷ bs) = Some (b ∷ bs)

abbrev pub with_hashes : Option (List ℕ) → Option (List (List ℕ)) → Option Remembered
with_hashes None hashes = None
with_hashes (Some name) None = None
with_hashes (Some name) (Some hashes) = Some (record { name = name; hashes = hashes })

abbrev pub with_parts : List (List ℕ) → Option Remembered
with_parts [] = None
with_parts (name ∷ hashes) = with_hashes (part_in name) (all_in part_in hashes)

-- a line is a name, and any number of hashes, each after a colon
abbrev pub remembered_in : List ℕ → Option Remembered
remembered_in line = with_parts (parts_of 58 line)

-- ---- the file

abbrev pub has_name : List ℕ → List Remembered → Bool
has_name name history = list_any (λ (r : Remembered). bytes_eq r.name name) history

-- no name occurs twice
abbrev pub are_distinct : List Remembered → Bool
are_distinct [] = true
are_distinct (r ∷ rs) = not (has_name r.name rs) && are_distinct rs

-- the same for texts in order: none is the one before it
abbrev pub is_first : List ℕ → List (List ℕ) → Bool
is_first text [] = false
is_first text (t ∷ ts) = bytes_eq t text

abbrev pub neighbours_differ : List (List ℕ) → Bool
neighbours_differ [] = true
neighbours_differ (t ∷ ts) = not (is_first t ts) && neighbours_differ ts

abbrev pub if_distinct : Option (List Remembered) → Option (List Remembered)
if_distinct None = None
if_distinct (Some history) = if are_distinct history then Some history else None

-- the lines of a text; None if it is damaged
unfoldable pub history_of : List ℕ → Option (List Remembered)
history_of text = if_distinct (all_in remembered_in (lines_of text))

-- unless memory ran out, what was returned are the lines of the text, or it is damaged
abbrev pub ReadsHistory : Result (List Remembered) (Refuse Damaged) → List ℕ → Type 0
ReadsHistory (Ok history) text = history_of text ≡ Some history
ReadsHistory (Err (Named damaged)) text = history_of text ≡ None
ReadsHistory (Err NoMemory) text = Unit {0}

-- ---- what is written

abbrev pub hash_text : List ℕ → List ℕ
hash_text hash = 58 ∷ hash

abbrev pub line_text : Remembered → List ℕ
line_text r = r.name ++ flat_map hash_text r.hashes

-- every line ends with a newline
abbrev pub whole_line : Remembered → List ℕ
whole_line r = line_text r ++ 10 ∷ []

unfoldable pub history_text : List Remembered → List ℕ
history_text history = flat_map whole_line history

-- ---- lines that can be written and read

-- a name, or a hash: it isn't empty, and holds no colon and no newline
pub record IsPart (part : List ℕ) : Type 0 where
  pub filled : part_in part ≡ Some part
  pub colons : has_byte 58 part ≡ false
  pub newlines : has_byte 10 part ≡ false

-- the name and the hashes of a line
abbrev pub IsLine : Remembered → Type 0
IsLine r = AllByRecursion IsPart (r.name ∷ r.hashes)

-- lines with parts, and no name twice
pub record IsHistory (history : List Remembered) : Type 0 where
  pub lines : AllByRecursion IsLine history
  pub distinct : are_distinct history ≡ true
