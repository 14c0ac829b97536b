-- Whether an account or its password is too old (shadow(5)).
--
-- Its steps:
--   `aged`: whether the account has expired
--   `code_after_change`: by the day of the password's last change
--   `code_at_age`: by the password's maximum age and the inactivity period
use Rattle.std.specs.Prelude.{ℕ, ◌+◌, ◌-◌, ◌/◌, ◌==◌, nat_le, nat_lt, Bool, false, if◌then◌else◌, Option, Some, None}
use Rattle.pam_base.specs.declared.code.Code.{Code}
use Rattle.pam_base.specs.declared.code.Code.TheVariants as returns
use Rattle.account_db.specs.declared.shadow.Shadow.{Shadow}

-- days since 1970
abbrev pub day_of : ℕ → ℕ
day_of moment = moment / 86400

abbrev pub is_reached : Option ℕ → ℕ → Bool
is_reached (Some day) today = nat_le day today
is_reached None today = false

abbrev pub is_past : ℕ → ℕ → Option ℕ → Bool
is_past age max (Some inactive) = nat_lt (max + inactive) age
is_past age max None = false

-- by the age of the password
abbrev pub code_at_age : ℕ → Option ℕ → Option ℕ → Code
code_at_age age (Some max) inactive = if is_past age max inactive then returns.AuthtokExpired
    else if nat_lt max age then returns.NewAuthtokReqd else returns.Success
code_at_age age None inactive = returns.Success

-- by the day of its last change; the day 0 asks for a new one
abbrev pub code_after_change : ℕ → Option ℕ → Option ℕ → Option ℕ → Code
code_after_change today (Some last) max inactive = if last == 0 then returns.NewAuthtokReqd
    else if nat_lt today last then returns.Success else code_at_age (today - last) max inactive
code_after_change today None max inactive = returns.Success

unfoldable pub aged : ℕ → Shadow → Code
aged today entry = if is_reached entry.expire today then returns.AcctExpired
    else code_after_change today entry.last_change entry.max entry.inactive
