-- What a store shows of the files of another one to one user (this project's own).
use Rattle.std.specs.Prelude.{◌≡◌, ◌⊎◌, ℕ, ◌<◌, Bool, true, false, List, [], ◌∷◌, length, codes, None, Result, Ok, Err, IsSomeAnd, IsTrue}
use Rattle.pam_outside.specs.declared.vault.VaultFault.{VaultFault}
use Rattle.pam_outside.specs.declared.vault.VaultFault.TheVariants as read_faults
use Rattle.pam_outside.specs.Files.{VaultState, ReadsFile, file_at, is_failing, no_locks}
use Rattle.own_files.specs.Entries.{has_entry}
use Rattle.own_files.specs.Lines.{own_lines}
use Rattle.own_files.specs.Paths.{is_of_shadow, is_shadow}

-- a store, as it was handed in and as it is, the user that it is for, and how often it has failed
pub record OwnStore (V : Type 0) : Type 0 where
  pub begun : V
  pub inner : V
  pub user : List ℕ
  pub faults : ℕ

-- What such a store says that it holds. It isn't modelled, so this says nothing of the files below: it names the user, so
-- that a contract can ask whose files a world has.
abbrev pub files_for : List ℕ → VaultState
files_for user = record {
  files = record { path = codes "own files"; bytes = user } ∷ [];
  locks = no_locks;
  calls = 0;
  fails = [];
}

-- a store has the files and the locks that it had before, if these are known
pub record IsUnchanged {V : Type 0} (tells : V → Bool) (holds : V → VaultState) (old new : V) : Type
    0 where
  pub tells_on : tells new ≡ tells old
  pub files : IsTrue (tells old) → (holds new).files ≡ (holds old).files
  pub locks : IsTrue (tells old) → (holds new).locks ≡ (holds old).locks

-- nothing but lines of this user
pub record IsOwn (user text : List ℕ) : Type 0 where
  pub whole : List ℕ
  pub is : text ≡ own_lines user whole

-- what was read at a path, by whether it is the shadow file's, and whether shadow stands in it
abbrev pub ShownBy : Bool → Bool → List ℕ → List ℕ → Type 0
ShownBy true of_shadow user text = IsOwn user text
ShownBy false true user text = ⊥
ShownBy false false user text = has_entry text ≡ false

-- of the shadow file there is nothing but lines of this user, no other file of the kind was read, and none at another
-- path with a line that has the form of an entry
abbrev pub IsShown : List ℕ → List ℕ → List ℕ → Type 0
IsShown user path text = ShownBy (is_shadow path) (is_of_shadow path) user text

-- the result of reading the shadow file, if the files are known: the user's lines of it
abbrev pub ReadsOwn : Result (List ℕ) VaultFault → List ℕ → List ℕ → ℕ → VaultState → Type 0
ReadsOwn (Ok text) user path limit s = (is_failing s ≡ false)
    × IsSomeAnd (file_at path s.files) (λ whole. text ≡ own_lines user whole)
ReadsOwn (Err read_faults.Absent) user path limit s = (is_failing s ≡ false)
    × (file_at path s.files ≡ None)
ReadsOwn (Err read_faults.TooLong) user path limit s = (is_failing s ≡ false)
    × IsSomeAnd (file_at path s.files) (λ whole.
    (limit < length whole) ⊎ (limit < length (own_lines user whole)))
ReadsOwn (Err read_faults.Failed) user path limit s = is_failing s ≡ true
ReadsOwn (Err read_faults.NoMemory) user path limit s = is_failing s ≡ false

-- the result of reading any other file: Failed, if a line of it has the form of an entry
abbrev pub ReadsOther : Result (List ℕ) VaultFault → List ℕ → ℕ → VaultState → Type 0
ReadsOther (Ok text) path limit s = ReadsFile (Ok text) path limit s × (has_entry text ≡ false)
ReadsOther (Err read_faults.Failed) path limit s =
    (is_failing s ≡ true)
    ⊎ ((text : List ℕ) × ReadsFile (Ok text) path limit s × (has_entry text ≡ true))
ReadsOther (Err read_faults.Absent) path limit s = ReadsFile (Err read_faults.Absent) path limit s
ReadsOther (Err read_faults.TooLong) path limit s = ReadsFile (Err read_faults.TooLong) path limit s
ReadsOther (Err read_faults.NoMemory) path limit s =
    ReadsFile (Err read_faults.NoMemory) path limit s

abbrev pub ReadsBy : Bool → Bool → Result (List ℕ) VaultFault → List ℕ → List ℕ → ℕ → VaultState
    → Type 0
ReadsBy true of_shadow result user path limit s = ReadsOwn result user path limit s
ReadsBy false true result user path limit s = result ≡ Err read_faults.Failed
ReadsBy false false result user path limit s = ReadsOther result path limit s

-- the result of any reading, if the files are known
abbrev pub ReadsShown : Result (List ℕ) VaultFault → List ℕ → List ℕ → ℕ → VaultState → Type 0
ReadsShown result user path limit s =
    ReadsBy (is_shadow path) (is_of_shadow path) result user path limit s
