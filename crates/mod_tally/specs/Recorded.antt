-- What a user's file has after a list of calls of pam_faillock(8), which may be from many transactions (this project's
-- own): the failures that were recorded since they were last cleared, except for those that don't count any more.
use Rattle.std.specs.Prelude.{◌≡◌, ◌⊎◌, ℕ, Bool, true, false, if◌then◌else◌, List, [], ◌∷◌, ◌++◌, map, Option, Some, None, Ok}
use Rattle.pam_base.specs.declared.code.Code.{Code}
use Rattle.pam_base.specs.declared.code.Code.TheVariants.{Success, Ignore}
use Rattle.item_store.specs.Items.{ItemTexts}
use Rattle.pam_outside.specs.Files.{File, file_at}
use Rattle.module_acts.specs.pam_room.specs.Call.{PlainCall}
use Rattle.module_acts.specs.pam_room.specs.Module.{NamedData, Played, SeenRoom, Sight}
use Rattle.mod_tally.specs.declared.tally.Failure.{Failure}
use Rattle.mod_tally.specs.declared.settings.Task.TheVariants.{AuthFail, AuthSucc, Clear}
use Rattle.mod_tally.specs.Settings.{PlainSettings, settings_of, task_among}
use Rattle.mod_tally.specs.Faillock.{faillock_plays, new_failure, task_of}
use Rattle.mod_tally.specs.Tally.{IsFailure, counting, failures_of, is_locked, tally_text}

-- the failures in a file; None if it is damaged
abbrev pub failures_on_file : Option (List ℕ) → Option (List Failure)
failures_on_file None = Some []
failures_on_file (Some text) = failures_of text

-- ---- what one call does

-- It leaves a file; it records a failure, with this `fail_interval`; or it clears the failures.
pub data Deed : Type 0 where
  left : Deed
  recorded : ℕ → Failure → Deed
  cleared : Deed

-- the user isn't locked
abbrev pub IsOpen : PlainSettings → ℕ → List Failure → Type 0
IsOpen s now failures = is_locked s.deny s.interval s.unlock now failures ≡ false

-- An authfail returned IGNORE: the user wasn't locked, and after the failures in the file there is a new one of this
-- time, and only those that count together with it are left.
pub record Records (path : List ℕ) (call : PlainCall) (now : ℕ) (items : ItemTexts)
    (before : List File) (code : Code) (after : List File)
    (interval : ℕ) (failure : Failure) : Type 0 where
  pub task : task_of call.func (task_among call.args) ≡ Ok AuthFail
  pub code_is : code ≡ Ignore
  pub interval_is : interval ≡ (settings_of call.args).interval
  pub failure_is : failure ≡ new_failure now items
  pub on_file : List Failure
  pub stood : failures_on_file (file_at path before) ≡ Some on_file
  pub unlocked : IsOpen (settings_of call.args) now on_file
  pub stands : file_at path after ≡ Some (tally_text (counting interval (on_file ++ failure ∷ [])))

-- An authsucc of a user who wasn't locked, or an acct_mgmt, returned SUCCESS, and none of the failures in the file is
-- left.
pub record Clears (path : List ℕ) (call : PlainCall) (now : ℕ) (before : List File) (code : Code)
    (after : List File) : Type 0 where
  pub code_is : code ≡ Success
  pub on_file : List Failure
  pub stood : failures_on_file (file_at path before) ≡ Some on_file
  pub allowed : (task_of call.func (task_among call.args) ≡ Ok Clear) ⊎
      ((task_of call.func (task_among call.args) ≡ Ok AuthSucc)
      × IsOpen (settings_of call.args) now on_file)
  pub stands : file_at path after ≡ Some (tally_text [])

abbrev pub DoesTo : List ℕ → PlainCall → ℕ → ItemTexts → List File → Code → List File → Deed
    → Type 0
DoesTo path call now items before code after left = file_at path after ≡ file_at path before
DoesTo path call now items before code after (recorded interval failure) =
    Records path call now items before code after interval failure
DoesTo path call now items before code after cleared = Clears path call now before code after

-- what a call did to the file with this path, given what it saw, what it returned and what it
-- changed
abbrev pub Does : List ℕ → PlainCall → Sight → Played → Deed → Type 0
Does path call sight p deed =
    DoesTo path call sight.clock.moment p.room.items sight.files p.code p.files deed

-- ---- a list of calls

-- a call of the module, what it saw, and what it did
pub record Served : Type 0 where
  pub call : PlainCall
  pub room : SeenRoom
  pub held : List NamedData
  pub sight : Sight
  pub deed : Deed

abbrev pub played : Served → Played
played s = faillock_plays s.call s.room s.held s.sight

abbrev pub deeds_of : List Served → List Deed
deeds_of calls = map (λ (s : Served). s.deed) calls

-- Only these calls changed the file with this path: each finds it as the one before left it.
abbrev pub Follow : List ℕ → Option (List ℕ) → List Served → Option (List ℕ) → Type 0
Follow path before [] after = after ≡ before
Follow path before (s ∷ ss) after =
    (file_at path s.sight.files ≡ before) × Does path s.call s.sight (played s) s.deed
    × Follow path (file_at path (played s).files) ss after

-- the failures in the file after it
abbrev pub left_by : Deed → List Failure → List Failure
left_by left on_file = on_file
left_by (recorded interval failure) on_file = counting interval (on_file ++ failure ∷ [])
left_by cleared on_file = []

-- the failures in the file at the start, and those that were recorded since they were last cleared
abbrev pub recorded_by : List Deed → List Failure → List Failure
recorded_by [] failures = failures
recorded_by (left ∷ ds) failures = recorded_by ds failures
recorded_by (recorded interval failure ∷ ds) failures = recorded_by ds (failures ++ failure ∷ [])
recorded_by (cleared ∷ ds) failures = recorded_by ds []

-- whether the file was written
abbrev pub is_written : List Deed → Bool
is_written [] = false
is_written (left ∷ ds) = is_written ds
is_written (recorded interval failure ∷ ds) = true
is_written (cleared ∷ ds) = true

-- all calls use one `fail_interval`, and record failures of bytes, with times of at most 13 digits
abbrev pub IsWith : ℕ → Deed → Type 0
IsWith interval left = Unit {0}
IsWith interval (recorded i failure) = (i ≡ interval) × IsFailure failure
IsWith interval cleared = Unit {0}

-- the failures in the file after the calls: those at the start if nothing was written; otherwise
-- the recorded ones that count
abbrev pub failures_by : ℕ → List Deed → List Failure → List Failure
failures_by interval deeds failures =
    if is_written deeds then counting interval (recorded_by deeds failures) else failures

-- ---- no other failure is lost

-- whether the failures were cleared
abbrev pub is_cleared : List Deed → Bool
is_cleared [] = false
is_cleared (left ∷ ds) = is_cleared ds
is_cleared (recorded interval failure ∷ ds) = is_cleared ds
is_cleared (cleared ∷ ds) = true

abbrev pub IsAmong : Failure → List Failure → Type 0
IsAmong f [] = ⊥
IsAmong f (g ∷ gs) = (g ≡ f) ⊎ IsAmong f gs
