-- Which ends a login makes, with real objects too (this project's own).
use Rattle.std.specs.Prelude.{◌≡◌, ◌⊎◌, ℕ, Result, Ok, Err}
use Rattle.pam_base.specs.declared.code.Code.{Code}
use Rattle.pam_base.specs.declared.code.Code.TheVariants.{Success}
use Rattle.pam_base.specs.Code.{number_of}
use Rattle.record_reader.specs.declared.ending.Stop.{Stop}
use Rattle.cmd_run.specs.Endings.{stop_status}
use Rattle.cmd_login.specs.declared.attempt.Verdict.{Verdict}
use Rattle.cmd_login.specs.declared.attempt.Verdict.TheVariants.{Passed, Denied, Refused}

-- an end of the first transaction with this code
abbrev pub IsEndWith : Code → ℕ → ℕ → Type 0
IsEndWith code number status = (number ≡ 1) × (status ≡ number_of code)

-- a code that denies a login
abbrev pub IsDenial : Code → Type 0
IsDenial code = code ≡ Success → ⊥

-- an end that the login itself makes: with SUCCESS, or with a code that denies it
abbrev pub IsOwnEnd : ℕ → ℕ → Type 0
IsOwnEnd number status = IsEndWith Success number status
    ⊎ ((code : Code) × IsDenial code × IsEndWith code number status)

-- With which code the transaction is ended. A refused start opens none; that isn't known here with
-- real objects, so an end with SUCCESS is allowed. If the login stopped, it is ended for that
-- reason, unless it was ended before.
abbrev pub IsEndOfLogin : Result Verdict Stop → ℕ → ℕ → Type 0
IsEndOfLogin (Ok Passed) number status = IsEndWith Success number status
IsEndOfLogin (Ok (Denied code)) number status = IsEndWith code number status
IsEndOfLogin (Ok Refused) number status = IsEndWith Success number status
IsEndOfLogin (Err stop) number status = IsEndWith (stop_status stop) number status
    ⊎ IsOwnEnd number status

abbrev pub IsNoEnd : ℕ → ℕ → Type 0
IsNoEnd number status = ⊥

-- with which code the transaction is ended at last, if it is still open
abbrev pub closing_code : Result Verdict Stop → Code
closing_code (Ok Passed) = Success
closing_code (Ok (Denied code)) = code
closing_code (Ok Refused) = Success
closing_code (Err stop) = stop_status stop
