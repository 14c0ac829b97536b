-- The load of the generated files, if there was no file before (this project's own).
use Rattle.std.specs.Prelude.{◌≡◌, ℕ, [], None, Ok, codes}
use Rattle.pam_outside.specs.Files.{VaultState}
use Rattle.random_config.specs.Files.{random_files}
use Rattle.service_load.specs.FirstFault.{Counts}
use Rattle.service_load.specs.Load.{loaded}
use Rattle.cmd_generate.specs.Placing.{placed}

-- there is no file, and no call is set to fail
pub record IsFree (vault : VaultState) : Type 0 where
  pub files : vault.files ≡ []
  pub fails : vault.fails ≡ []

-- All files of the seed are stored, and the configuration of the service `gen` over them has no fault.
pub record LoadsAll (seed lines : ℕ) (vault : VaultState) : Type 0 where
  pub none : (placed (random_files seed lines) vault).fault ≡ None
  pub counts : Counts
  pub no_fault : loaded (placed (random_files seed lines) vault).vault (codes "/") (codes "gen")
      ≡ Ok counts
