-- How long to wait after an authentication, pam_fail_delay(3).
use Rattle.std.specs.Prelude.{ℕ, Bool, true, false, ◌==◌, ◌||◌, Option, Some, None, if◌then◌else◌}
use Rattle.pam_base.specs.declared.code.Code.{Code}
use Rattle.pam_base.specs.Code.{number_of}

-- an application's delay function, if it is on, is always called, and the number that it returns is
-- the wait; if it is off, the requested delay is the wait after every code except SUCCESS, and
-- there is none if no delay was requested
abbrev pub wait_of : Bool → (Code → ℕ → ℕ) → Code → ℕ → Option ℕ
wait_of true number code asked = Some (number code asked)
wait_of false number code asked = if number_of code == 0 || asked == 0 then None else Some asked
