-- pam_unix(8), acct_mgmt.
use Rattle.pam_base.specs.declared.code.Code.{Code}
use Rattle.pam_base.specs.declared.code.Code.TheVariants as returns
use Rattle.module_acts.specs.Act.{Act, asks_user}
use Rattle.module_acts.specs.Steps.{sees_clock}
use Rattle.mod_unix.specs.declared.look.KnownPassword.{KnownPassword}
use Rattle.mod_unix.specs.declared.look.KnownPassword.TheVariants.{Unknown, Unavailable, Plain, Shadowed}
use Rattle.mod_unix.specs.Aging.{aged, day_of}
use Rattle.mod_unix.specs.Look.{looks}

unfoldable pub account_by : KnownPassword → (Code → Act) → Act
account_by Unknown act = act returns.UserUnknown
account_by Unavailable act = act returns.AuthinfoUnavail
account_by (Plain hash) act = act returns.Success
account_by (Shadowed entry) act = sees_clock (λ clock. act (aged (day_of clock.moment) entry))

unfoldable pub checks_account : (Code → Act) → Act
checks_account act = asks_user (λ user. looks user (λ look. account_by look act))
