-- Service files that are stored, one after another (this project's own).
use Rattle.std.specs.Prelude.{◌≡◌, ◌⊎◌, ℕ, false, if◌then◌else◌, Option, Some, None, List, [], ◌∷◌, ◌++◌, codes, Result, Ok, Err}
use Rattle.pam_base.specs.declared.fault.FaultKind.TheVariants.{ReadFailed}
use Rattle.pam_base.specs.declared.fault.Refuse.{Refuse}
use Rattle.pam_base.specs.declared.fault.Refuse.TheVariants.{NoMemory, Named}
use Rattle.pam_outside.specs.Files.{VaultState, counted, file_put, refuses}
use Rattle.random_config.specs.declared.files.RandomFile.{RandomFile}
use Rattle.cmd_run.specs.pam_room.specs.State.{PlainWorld}
use Rattle.service_load.specs.declared.load_fault.LoadFault.{LoadFault}

-- the path of a service file of this name
abbrev pub path_of_service : List ℕ → List ℕ
path_of_service name = codes "/etc/pam.d/" ++ name

abbrev pub fault_of : RandomFile → LoadFault
fault_of file = record { file = path_of_service file.name; line = 0; kind = ReadFailed }

-- the files after one was stored
abbrev pub with_file : RandomFile → VaultState → VaultState
with_file file v = counted
    (record v { files = file_put (path_of_service file.name) file.text v.files })

-- the files after the calls, up to the first that is refused, and the fault of that one
pub record Placed : Type 0 where
  pub vault : VaultState
  pub fault : Option LoadFault

abbrev pub placed : List RandomFile → VaultState → Placed
placed [] v = record { vault = v; fault = None }
placed (file ∷ files) v = if refuses file.text v
    then record { vault = counted v; fault = Some (fault_of file) }
    else placed files (with_file file v)

-- a world with other files
abbrev pub with_vault : VaultState → PlainWorld → PlainWorld
with_vault vault w = record w { vault = vault }

-- The files if an allocation failed: before one of these was stored, while it was stored, or after
-- that.
abbrev pub PlacesSome : List RandomFile → VaultState → VaultState → Type 0
PlacesSome [] v vault = ⊥
PlacesSome (file ∷ files) v vault = (vault ≡ v) ⊎ ((refuses file.text v ≡ false)
    × ((vault ≡ counted v) ⊎ PlacesSome files (with_file file v) vault))

-- All files were stored, or all up to the fault; if an allocation failed, the first few.
abbrev pub Places : {T : Type 0} → Result T (Refuse LoadFault) → List RandomFile → VaultState
    → VaultState → Type 0
Places (Ok done) files v vault =
    ((placed files v).fault ≡ None) × (vault ≡ (placed files v).vault)
Places (Err (Named fault)) files v vault =
    ((placed files v).fault ≡ Some fault) × (vault ≡ (placed files v).vault)
Places (Err NoMemory) files v vault = PlacesSome files v vault
