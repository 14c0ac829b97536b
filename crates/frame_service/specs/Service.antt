-- How a run of frames ends, and how long the front end waits (this project's own).
use Rattle.std.specs.Prelude.{◌≡◌, ◌⊎◌, ℕ, min, if◌then◌else◌, List, Option, Some, None}
use Rattle.pam_base.specs.declared.code.Code.{Code}
use Rattle.pam_base.specs.declared.code.Code.TheVariants as results
use Rattle.cmd_all.specs.Command.{Command, runs, checks, logs_in, generates, tallies, audits, wires, is_operand}
use Rattle.cmd_all.specs.Wire.{IsWireStatus}

-- frames under a root; none if it can't be one
abbrev pub wires_under : List ℕ → Option Command
wires_under root = if is_operand root then Some (wires root) else None

-- the command: frames, or none
abbrev pub IsOfFrames : Option Command → Type 0
IsOfFrames None = Unit {0}
IsOfFrames (Some (wires root)) = Unit {0}
IsOfFrames (Some (runs root)) = ⊥
IsOfFrames (Some (checks root service)) = ⊥
IsOfFrames (Some (logs_in root service user)) = ⊥
IsOfFrames (Some (generates seed lines)) = ⊥
IsOfFrames (Some (tallies root user)) = ⊥
IsOfFrames (Some (audits root service)) = ⊥

-- the exit status of a run of frames, or 2 or 6 without a command
abbrev pub StatusOf : Option Command → ℕ → Type 0
StatusOf None status = (status ≡ 2) ⊎ (status ≡ 6)
StatusOf (Some request) status = IsWireStatus status

-- the wait after an authentication, in microseconds, by its return code and the requested delay: at most 60 seconds
abbrev pub served_wait : Code → ℕ → ℕ
served_wait results.Success asked = 0
served_wait code asked = min asked 60000000
