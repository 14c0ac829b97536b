-- Which objects of the outside each command gets (this project's own).
use Rattle.std.specs.Prelude.{◌≡◌, ℕ, Bool, false, true, not, List, [], ◌∷◌, codes, min, replicate, string_bytes, String, if◌then◌else◌}
use Rattle.std.specs.Str.{bytes_eq}
use Rattle.std.specs.declared.alloc.Global.{Global}
use Rattle.pam_base.specs.declared.code.Code.{Code}
use Rattle.pam_base.specs.declared.code.Code.TheVariants as results
use Rattle.pam_outside.specs.Files.{VaultState, no_locks}
use Rattle.pam_outside.specs.Paths.{path_of}
use Rattle.system_objects.specs.Folder.{files_below}
use Rattle.cmd_login.specs.cmd_run.specs.pam_library.specs.Slots.{PlainSlot, closed}
use Rattle.pam_session_cli.specs.declared.objects.Files.{Files}
use Rattle.pam_session_cli.specs.declared.objects.Objects.{Objects}
use Rattle.pam_session_cli.specs.declared.objects.Replies.{Replies}
use Rattle.pam_session_cli.specs.declared.objects.Time.{Time}
use Rattle.pam_session_cli.specs.declared.objects.Time.TheVariants as time
use Rattle.pam_session_cli.specs.declared.objects.Files.TheVariants as files
use Rattle.pam_session_cli.specs.declared.objects.Replies.TheVariants as replies

-- login sleeps by the real clock, wire waits for a front end's replies, generate keeps its files in
-- memory
abbrev pub objects_for : List ℕ → Objects
objects_for command =
    if bytes_eq command (codes "login")
    then record { time = time.Real; files = files.OnDisk; replies = replies.Queued }
    else if bytes_eq command (codes "wire")
    then record { time = time.Fixed; files = files.OnDisk; replies = replies.Awaited }
    else if bytes_eq command (codes "generate")
    then record { time = time.Fixed; files = files.InMemory; replies = replies.Queued }
    else record { time = time.Fixed; files = files.OnDisk; replies = replies.Queued }

-- by the first word of the command line, if there is one
abbrev pub objects_of : List (String Global) → Objects
objects_of [] = record { time = time.Fixed; files = files.OnDisk; replies = replies.Queued }
objects_of (command ∷ operands) = objects_for (string_bytes command)

-- the directory that the files of a command are under, which is its first operand
abbrev pub root_of : List (String Global) → List ℕ
root_of (command ∷ root ∷ operands) = string_bytes root
root_of words = codes "/"

-- whether files of this kind are modelled, and what they hold: none yet, or they name their root
abbrev pub is_in_memory : Files → Bool
is_in_memory files.InMemory = true
is_in_memory files.OnDisk = false

abbrev pub files_under : List ℕ → Files → VaultState
files_under root files.InMemory = record { files = []; locks = no_locks; calls = 0; fails = [] }
files_under root files.OnDisk = files_below (path_of root [])

-- The files that a command gets are of this kind, and below this root.
pub record AreFiles (root : List ℕ) (kind : Files) (tells : Bool) (holds : VaultState) : Type 0 where
  pub modelled : tells ≡ is_in_memory kind
  pub under : holds ≡ files_under root kind

-- whether a clock and a sleep of this kind are modelled
abbrev pub is_fixed : Time → Bool
is_fixed time.Fixed = true
is_fixed time.Real = false

-- The clock, the sleep and the time of day that a command gets are of this kind: without a time of day a script alone sets
-- the clock.
pub record IsTime (kind : Time) (clock nap day : Bool) : Type 0 where
  pub fixed : clock ≡ is_fixed kind
  pub summed : nap ≡ is_fixed kind
  pub told : day ≡ not (is_fixed kind)

-- a transaction that isn't open, with a conversation of this kind, which holds no reply
abbrev pub waits : Replies → Bool
waits replies.Awaited = true
waits replies.Queued = false

abbrev pub slot_with : Replies → PlainSlot
slot_with kind = closed (record { offers = []; waits = waits kind; handed = [] })

-- sixteen of them
abbrev pub slots_with : Replies → List PlainSlot
slots_with kind = replicate 16 (slot_with kind)

-- the wait after an authentication, in microseconds, by its return code and the requested delay: at most 3 seconds
abbrev pub wait_for : Code → ℕ → ℕ
wait_for results.Success asked = 0
wait_for code asked = min asked 3000000
