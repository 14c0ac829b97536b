-- What is known of an application's delay function (PAM_FAIL_DELAY of pam_fail_delay(3)). That it
-- returns the wait is this project's own: the page's function sleeps itself.
use Rattle.std.specs.Prelude.{◌≡◌, ℕ, ◌≤◌}
use Rattle.pam_base.specs.declared.code.Code.{Code}

-- for each code and each delay that can be asked for, a function returns exactly one number, at
-- most 60 seconds in microseconds
pub record GivesOneNumber (Gives : Code → ℕ → ℕ → Type 0) : Type 0 where
  pub one : (code : Code) (asked n other : ℕ) → asked ≤ 90000000 → Gives code asked n
      → Gives code asked other → n ≡ other
  pub within : (code : Code) (asked n : ℕ) → asked ≤ 90000000 → Gives code asked n → n ≤ 60000000

-- the number that the function returns is this one
abbrev pub IsNumberGiven : (Code → ℕ → ℕ → Type 0) → (Code → ℕ → ℕ) → Type 0
IsNumberGiven Gives number = (code : Code) (asked n : ℕ) → asked ≤ 90000000 → Gives code asked n
    → n ≡ number code asked
