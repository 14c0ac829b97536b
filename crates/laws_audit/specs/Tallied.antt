-- A user's tally file over a run (this project's own).
use Rattle.std.specs.Prelude.{◌≡◌, ◌≢◌, ◌⊎◌, ◌<◌, ◌^◌, ℕ, List, [], ◌∷◌, map, Option, Some, None, slice_get, unwrap_or}
use Rattle.std.specs.List.{AllByRecursion}
use Rattle.pam_outside.specs.Files.{File, file_at}
use Rattle.pam_room.specs.Call.{PlainCall}
use Rattle.pam_room.specs.Module.{NamedData, Player, Plays, SeenRoom, Sight}
use Rattle.pam_library.specs.Plays.{ModuleGets, AskedLine, answer_of, module_of_path}
use Rattle.mod_tally.specs.declared.tally.Failure.{Failure}
use Rattle.mod_tally.specs.Faillock.{faillock_plays}
use Rattle.mod_tally.specs.Recorded.{Follow, IsWith, Served, deeds_of, played, failures_on_file, failures_by}
use Rattle.mod_tally.specs.Settings.{settings_of}

-- no call of the module changes the file with this path
abbrev pub LeavesFile : List ℕ → Plays → Type 0
LeavesFile path plays = (call : PlainCall) (room : SeenRoom) (held : List NamedData) (sight : Sight)
    → file_at path (plays call room held sight).files ≡ file_at path sight.files

-- of these modules only pam_faillock writes the file
abbrev pub FaillockAloneWrites : List ℕ → List Player → Type 0
FaillockAloneWrites path players = (n : ℕ) (p : Player) → slice_get players n ≡ Some p
    → (p.plays ≡ faillock_plays) ⊎ LeavesFile path p.plays

-- ---- a line that was run, and what it did to the file

-- either its module is pam_faillock and this is its call; or its module doesn't write the file
pub data TalliedLine : Type 0 where
  counted : AskedLine → Served → TalliedLine
  passed_by : AskedLine → TalliedLine

abbrev pub line_in : TalliedLine → AskedLine
line_in (counted a s) = a
line_in (passed_by a) = a

-- The call is the call of this line: its module is pam_faillock, which got exactly this.
pub record IsCallOf (players : List Player) (a : AskedLine) (s : Served) : Type 0 where
  pub player : Player
  pub module_is : module_of_path players a.visit.path ≡ Some player
  pub is_faillock : player.plays ≡ faillock_plays
  pub call_is : s.call ≡ a.asked.call
  pub room_is : s.room ≡ a.asked.room
  pub held_is : s.held ≡ a.asked.held
  pub sight_is : s.sight ≡ a.asked.sight
  pub answer_is : a.visit.answer ≡ answer_of (played s)

-- the module of a line, if it exists, leaves the file as it was
abbrev pub LeavesFileIf : List ℕ → Option Player → Type 0
LeavesFileIf path None = Unit {0}
LeavesFileIf path (Some p) = LeavesFile path p.plays

abbrev pub IsTallied : List ℕ → List Player → TalliedLine → Type 0
IsTallied path players (counted a s) = IsCallOf players a s
IsTallied path players (passed_by a) = LeavesFileIf path (module_of_path players a.visit.path)

-- the calls of pam_faillock among the lines
abbrev pub calls_in : List TalliedLine → List Served
calls_in [] = []
calls_in (counted a s ∷ ls) = s ∷ calls_in ls
calls_in (passed_by a ∷ ls) = calls_in ls

-- ---- a run

-- the text of an item is bytes
abbrev pub IsText : Option (List ℕ) → Type 0
IsText text = AllByRecursion (λ (b : ℕ). b < 256) (unwrap_or text [])

-- A call uses this `fail_interval`, and a failure that it records can be written: its time has at most 13 digits, and
-- the items that name its source are bytes.
pub record CanRecord (interval : ℕ) (a : ModuleGets) : Type 0 where
  pub interval_is : (settings_of a.call.args).interval ≡ interval
  pub moment : a.sight.clock.moment < 10 ^ 13
  pub rhost : IsText (faillock_plays a.call a.room a.held a.sight).room.items.rhost
  pub tty : IsText (faillock_plays a.call a.room a.held a.sight).room.items.tty
  pub service : IsText (faillock_plays a.call a.room a.held a.sight).room.items.service
  pub named : unwrap_or (faillock_plays a.call a.room a.held a.sight).room.items.service [] ≢ []

-- the lines of pam_faillock among those that were run use one `fail_interval`, and can record
abbrev pub CanRecordIf : ℕ → List Player → AskedLine → Type 0
CanRecordIf interval players a = (p : Player) → module_of_path players a.visit.path ≡ Some p
    → p.plays ≡ faillock_plays → CanRecord interval a.asked

-- These lines lead the file from its state in some files to that in others: each line run is one of pam_faillock, and
-- its call finds the file as the one before left it, or its module leaves the file. If the failures
-- that these calls record have one `fail_interval` and can be written (`failures_by_deeds`), as they do
-- if each line of pam_faillock has it and can record (`if_can_record`), the file is as at the start if
-- nothing was written, and otherwise has the failures that count among those recorded since they were
-- last cleared.
pub record Tallies (path : List ℕ) (players : List Player) (before : List File)
    (asked : List AskedLine) (after : List File) : Type 0 where
  pub lines : List TalliedLine
  pub lines_are : map line_in lines ≡ asked
  pub each : AllByRecursion (IsTallied path players) lines
  pub follow : Follow path (file_at path before) (calls_in lines) (file_at path after)
  pub failures_by_deeds : (interval : ℕ) (failures : List Failure)
      → AllByRecursion (IsWith interval) (deeds_of (calls_in lines))
      → failures_on_file (file_at path before) ≡ Some failures
      → failures_on_file (file_at path after)
      ≡ Some (failures_by interval (deeds_of (calls_in lines)) failures)
  pub if_can_record : (interval : ℕ) (failures : List Failure)
      → AllByRecursion (CanRecordIf interval players) asked
      → failures_on_file (file_at path before) ≡ Some failures
      → failures_on_file (file_at path after)
      ≡ Some (failures_by interval (deeds_of (calls_in lines)) failures)
