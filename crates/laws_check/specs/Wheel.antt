-- Whom pam_wheel lets in (pam_wheel(8); the statement is this project's own).
use Rattle.std.specs.Prelude.{◌≡◌, ◌≢◌, ◌⊎◌, ℕ, true, false, List, Some, Ok, codes}
use Rattle.pam_base.specs.declared.call.Func.TheVariants.{SetCred}
use Rattle.pam_base.specs.declared.code.Code.TheVariants.{Success, Ignore}
use Rattle.pam_outside.specs.Files.{File, file_at}
use Rattle.pam_outside.specs.Paths.{path_of}
use Rattle.pam_room.specs.Call.{PlainCall, value_among}
use Rattle.pam_room.specs.Module.{NamedData, SeenRoom, Sight}
use Rattle.account_db.specs.declared.passwd.Passwd.{Passwd}
use Rattle.account_db.specs.declared.group.Group.{Group}
use Rattle.account_db.specs.Group.{groups_of}
use Rattle.account_db.specs.Members.{is_member}
use Rattle.account_db.specs.Passwd.{entry_of_uid, passwds_of}
use Rattle.module_acts.specs.Arguments.{has_argument}
use Rattle.mod_history.specs.Wheel.{wheel_group, wheel_plays}

-- the caller of the process has an entry in passwd, and is in the group of `group=`, or in wheel
pub record InWheel (root : List ℕ) (files : List File) (caller : ℕ) (args : List (List ℕ)) : Type
    0 where
  pub passwd : List ℕ
  pub passwd_is : file_at (path_of root (codes "/etc/passwd")) files ≡ Some passwd
  pub accounts : List Passwd
  pub accounts_are : passwds_of passwd ≡ Ok accounts
  pub account : Passwd
  pub account_is : entry_of_uid caller accounts ≡ Some account
  pub group_file : List ℕ
  pub group_file_is : file_at (path_of root (codes "/etc/group")) files ≡ Some group_file
  pub groups : List Group
  pub groups_are : groups_of group_file ≡ Ok groups
  pub group : Group
  pub group_is : wheel_group (value_among (codes "group=") args) groups ≡ Some group
  pub member : is_member account.name (Some account) group ≡ true

-- Without `deny` and `root_only`, each call but setcred returns SUCCESS or IGNORE only then.
abbrev pub OnlyMembersGoOn : Type 0
OnlyMembersGoOn =
    (call : PlainCall) (room : SeenRoom) (held : List NamedData) (sight : Sight) →
    call.func ≢ SetCred → has_argument (codes "deny") call.args ≡ false →
    has_argument (codes "root_only") call.args ≡ false →
    ((wheel_plays call room held sight).code ≡ Success)
    ⊎ ((wheel_plays call room held sight).code ≡ Ignore) →
    InWheel sight.root sight.files sight.caller call.args
