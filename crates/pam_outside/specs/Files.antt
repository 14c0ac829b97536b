-- The content of a modelled file store, and what its calls return (this project's own).
use Rattle.std.specs.Prelude.{◌≡◌, ℕ, ◌≤◌, ◌<◌, Bool, true, false, ◌||◌, if◌then◌else◌, Option, Some, None, List, [], ◌∷◌, ◌++◌, length, codes, nat_eq, nat_lt, Result, Ok, Err, IsSomeAnd}
use Rattle.std.specs.List.{list_any, starts_with}
use Rattle.std.specs.Str.{bytes_eq}
use Rattle.pam_outside.specs.Counts.{next_count, fails_next}
use Rattle.pam_outside.specs.declared.held.LockKind.{LockKind}
use Rattle.pam_outside.specs.declared.vault.TheConstants.{MAX_FILE}
use Rattle.pam_outside.specs.declared.vault.VaultFault.{VaultFault}
use Rattle.pam_outside.specs.declared.vault.VaultFault.TheVariants as read_faults
use Rattle.pam_outside.specs.declared.vault.ReplaceFault.{ReplaceFault}
use Rattle.pam_outside.specs.declared.vault.ReplaceFault.TheVariants as replace_faults

pub record File : Type 0 where
  pub path : List ℕ
  pub bytes : List ℕ

-- a lock that was taken: its path, its kind, and how many calls there were until then, with the one that took it
pub record Lock : Type 0 where
  pub path : List ℕ
  pub kind : LockKind
  pub calls : ℕ

-- the locks that were taken, in order, and how many calls there had been when one was let go last
pub record Locks : Type 0 where
  pub taken : List Lock
  pub let_go : ℕ

-- none was taken
abbrev pub no_locks : Locks
no_locks = record { taken = []; let_go = 0 }

-- one more was taken, after so many calls
abbrev pub with_lock : List ℕ → LockKind → ℕ → Locks → Locks
with_lock path kind calls locks = record locks {
  taken = locks.taken
      ++ record { path = path; kind = kind; calls = calls } ∷ [];
}

-- one was let go, after so many calls; nothing happens if none was taken
abbrev pub without_lock : Bool → ℕ → Locks → Locks
without_lock held calls locks = record locks { let_go = if held then calls else locks.let_go }

-- the files, the locks, the number of calls so far, and the numbers of the calls planned to fail
pub record VaultState : Type 0 where
  pub files : List File
  pub locks : Locks
  pub calls : ℕ
  pub fails : List ℕ

-- after one more call
abbrev pub counted : VaultState → VaultState
counted s = record s { calls = next_count s.calls }

-- whether the next call is planned to fail
abbrev pub is_failing : VaultState → Bool
is_failing s = fails_next s.calls s.fails

-- whether the next call is refused, if it is to replace a file by these bytes: it is planned to fail, or they are more
-- than can be read back
abbrev pub refuses : List ℕ → VaultState → Bool
refuses bytes s = is_failing s || nat_lt MAX_FILE (length bytes)

-- the lock was taken by the last call
abbrev pub locked : List ℕ → LockKind → VaultState → VaultState
locked path kind s = record s { locks = with_lock path kind s.calls s.locks }

-- the lock was let go
abbrev pub unlocked : Bool → VaultState → VaultState
unlocked held s = record s { locks = without_lock held s.calls s.locks }

-- the bytes of the file with this path
abbrev pub file_at : List ℕ → List File → Option (List ℕ)
file_at path [] = None
file_at path (f ∷ fs) = if bytes_eq f.path path then Some f.bytes else file_at path fs

-- the files with this one replaced or added
abbrev pub file_put : List ℕ → List ℕ → List File → List File
file_put path bytes [] = record { path = path; bytes = bytes } ∷ []
file_put path bytes (f ∷ fs) = if bytes_eq f.path path
    then record { path = path; bytes = bytes } ∷ fs else f ∷ file_put path bytes fs

-- whether a path begins with this one and a slash
abbrev pub is_below : List ℕ → List ℕ → Bool
is_below folder path = starts_with nat_eq path (folder ++ codes "/")

-- whether a file lies below this path
abbrev pub is_directory : List ℕ → List File → Bool
is_directory path files = list_any (λ f. is_below path f.path) files

-- the result of reading a file: a call planned to fail returns Failed and nothing else; any other may run out of memory
abbrev pub ReadsFile : Result (List ℕ) VaultFault → List ℕ → ℕ → VaultState → Type 0
ReadsFile (Ok bytes) path limit s = (is_failing s ≡ false) × (file_at path s.files ≡ Some bytes)
    × (length bytes ≤ limit)
ReadsFile (Err read_faults.Absent) path limit s = (is_failing s ≡ false)
    × (file_at path s.files ≡ None)
ReadsFile (Err read_faults.TooLong) path limit s = (is_failing s ≡ false)
    × IsSomeAnd (file_at path s.files) (λ bytes. limit < length bytes)
ReadsFile (Err read_faults.Failed) path limit s = is_failing s ≡ true
ReadsFile (Err read_faults.NoMemory) path limit s = is_failing s ≡ false

-- the result of asking whether a path is a directory
abbrev pub TellsDirectory : Result Bool ReplaceFault → List ℕ → VaultState → Type 0
TellsDirectory (Ok found) path s = (is_failing s ≡ false) × (found ≡ is_directory path s.files)
TellsDirectory (Err replace_faults.Failed) path s = is_failing s ≡ true
TellsDirectory (Err replace_faults.NoMemory) path s = is_failing s ≡ false

-- the result of taking a lock, and the store after it: a call planned to fail returns Failed and nothing else
abbrev pub TakesLock : {T : Type 0} → Result T ReplaceFault → List ℕ → LockKind → VaultState
    → VaultState → Type 0
TakesLock (Ok held) path kind old new = (is_failing old ≡ false)
    × (new ≡ locked path kind (counted old))
TakesLock (Err replace_faults.Failed) path kind old new = (is_failing old ≡ true)
    × (new ≡ counted old)
TakesLock (Err replace_faults.NoMemory) path kind old new = (is_failing old ≡ false)
    × (new ≡ counted old)

-- the result of replacing or adding a file, and the files after it: if it is refused, they are as before
abbrev pub Replaces : {T : Type 0} → Result T ReplaceFault → List ℕ → List ℕ → VaultState
    → VaultState → Type 0
Replaces (Ok done) path bytes old new = (refuses bytes old ≡ false)
    × (new ≡ counted (record old { files = file_put path bytes old.files }))
Replaces (Err replace_faults.Failed) path bytes old new = (refuses bytes old ≡ true)
    × (new ≡ counted old)
Replaces (Err replace_faults.NoMemory) path bytes old new = (refuses bytes old ≡ false)
    × (new ≡ counted old)
