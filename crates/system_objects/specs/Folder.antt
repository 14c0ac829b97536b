-- The files of a system, or those below one of its directories (this project's own).
use Rattle.std.specs.Prelude.{ℕ, Bool, List, [], ◌∷◌, codes}
use Rattle.pam_outside.specs.Files.{VaultState, no_locks}

-- what it uses, the path of the root without slashes at its end, which is empty for the whole system, its failures so
-- far, and whether it has a lock that it was asked for
pub record Folder (T : Type 0) : Type 0 where
  pub rt : T
  pub root : List ℕ
  pub faults : ℕ
  pub locked : Bool

-- What such a store says that it holds. It isn't modelled, so this says nothing of its files: it names the root, so that a
-- contract can ask which files a world has.
abbrev pub files_below : List ℕ → VaultState
files_below root = record {
  files = record { path = codes "files below"; bytes = root } ∷ [];
  locks = no_locks;
  calls = 0;
  fails = [];
}
