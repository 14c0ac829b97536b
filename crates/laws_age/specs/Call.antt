-- That acct_mgmt of pam_unix judges the user's entry in shadow on the day of the clock (pam_unix(8);
-- the statement is this project's own).
use Rattle.std.specs.Prelude.{◌≡◌, ◌≤◌, ℕ, false, List, Some, Ok, codes, length}
use Rattle.pam_base.specs.declared.call.Func.TheVariants.{AcctMgmt}
use Rattle.pam_outside.specs.Files.{File, file_at}
use Rattle.pam_outside.specs.Paths.{path_of}
use Rattle.pam_room.specs.Call.{PlainCall}
use Rattle.pam_room.specs.Module.{NamedData, SeenRoom, Sight}
use Rattle.account_db.specs.declared.passwd.Passwd.{Passwd}
use Rattle.account_db.specs.declared.shadow.Shadow.{Shadow}
use Rattle.account_db.specs.Passwd.{entry_of, passwds_of}
use Rattle.account_db.specs.Shadow.{shadow_of, shadows_of}
use Rattle.module_acts.specs.Accounts.{account_limit}
use Rattle.mod_unix.specs.Aging.{aged, day_of}
use Rattle.mod_unix.specs.Unix.{unix_plays}

-- The user has an entry in passwd whose password field is `x`, and this entry in shadow. No line of
-- the two files is at fault, and they aren't too long.
pub record HasEntry (root : List ℕ) (files : List File) (user : List ℕ) (entry : Shadow) : Type
    0 where
  pub passwd : List ℕ
  pub passwd_is : file_at (path_of root (codes "/etc/passwd")) files ≡ Some passwd
  pub passwd_fits : length passwd ≤ account_limit
  pub accounts : List Passwd
  pub accounts_are : passwds_of passwd ≡ Ok accounts
  pub account : Passwd
  pub account_is : entry_of user accounts ≡ Some account
  pub in_shadow : account.password ≡ codes "x"
  pub shadow : List ℕ
  pub shadow_is : file_at (path_of root (codes "/etc/shadow")) files ≡ Some shadow
  pub shadow_fits : length shadow ≤ account_limit
  pub entries : List Shadow
  pub entries_are : shadows_of shadow ≡ Ok entries
  pub entry_is : shadow_of user entries ≡ Some entry

-- If USER is set, and no access to a file fails, acct_mgmt returns the code of that entry.
abbrev pub GoesByTheEntry : Type 0
GoesByTheEntry =
    (call : PlainCall) (room : SeenRoom) (held : List NamedData) (sight : Sight) (user : List ℕ)
    (entry : Shadow) → call.func ≡ AcctMgmt → room.items.user ≡ Some user →
    ((n : ℕ) → sight.failing n ≡ false) → HasEntry sight.root sight.files user entry →
    (unix_plays call room held sight).code ≡ aged (day_of sight.clock.moment) entry
