-- How acct_mgmt of pam_unix judges an entry of shadow from day to day (pam_unix(8), shadow(5); the
-- statements are this project's own).
use Rattle.std.specs.Prelude.{◌≡◌, ◌⊎◌, ◌≤◌, ◌<◌, nat_le, ℕ, Bool, true, false, Option, Some, None}
use Rattle.pam_base.specs.declared.code.Code.{Code}
use Rattle.pam_base.specs.declared.code.Code.TheVariants.{Success, NewAuthtokReqd, AuthtokExpired, AcctExpired}
use Rattle.account_db.specs.declared.shadow.Shadow.{Shadow}
use Rattle.mod_unix.specs.Aging.{aged, is_reached}

-- the codes in the order in which an entry gets them as days go by
abbrev pub step : Code → ℕ
step Success = 0
step NewAuthtokReqd = 1
step AuthtokExpired = 2
step AcctExpired = 3
step other = 4

-- whether a maximum age isn't above another; an empty field is no maximum, and above all
abbrev pub is_at_most : Option ℕ → Option ℕ → Bool
is_at_most max None = true
is_at_most (Some max) (Some more) = nat_le max more
is_at_most None (Some more) = false

-- With a larger maximum age, or none, all else equal, the code of a day is the same or an earlier
-- one: what is SUCCESS stays so, and no password expires that didn't.
abbrev pub LongerMaximum : Type 0
LongerMaximum =
    (today : ℕ) (entry : Shadow) (more : Option ℕ) → is_at_most entry.max more ≡ true →
    step (aged today (record entry { max = more })) ≤ step (aged today entry)

-- On a later day the same entry has the same code or a later one, and none but these four.
abbrev pub OnlyAges : Type 0
OnlyAges =
    (today later : ℕ) (entry : Shadow) → today ≤ later →
    (step (aged today entry) ≤ step (aged later entry)) × (step (aged later entry) ≤ 3)

-- ACCT_EXPIRED is the code exactly from the day on that the entry gives, so on each later day too.
pub record AccountExpires (today : ℕ) (entry : Shadow) : Type 0 where
  pub from_its_day : is_reached entry.expire today ≡ true → aged today entry ≡ AcctExpired
  pub not_before : aged today entry ≡ AcctExpired → is_reached entry.expire today ≡ true
  pub stays : (later : ℕ) → today ≤ later → aged today entry ≡ AcctExpired →
      aged later entry ≡ AcctExpired

abbrev pub AccountsExpire : Type 0
AccountsExpire = (today : ℕ) (entry : Shadow) → AccountExpires today entry

-- A password that was changed today isn't too old today, whatever the maximum age: nothing but the
-- end of the account refuses it. On the day 0 the entry would ask for a new one.
abbrev pub NewIsNotTooOld : Type 0
NewIsNotTooOld =
    (today : ℕ) (entry : Shadow) → 0 < today → entry.last_change ≡ Some today →
    (aged today entry ≡ Success) ⊎ (aged today entry ≡ AcctExpired)
