-- Whom pam_nologin lets in (pam_nologin(8); the statement is this project's own).
use Rattle.std.specs.Prelude.{◌≡◌, ◌≢◌, ◌⊎◌, ℕ, List, Some, None, codes}
use Rattle.pam_base.specs.declared.call.Func.TheVariants.{SetCred}
use Rattle.pam_base.specs.declared.code.Code.TheVariants.{Success, Ignore}
use Rattle.pam_outside.specs.Files.{File, file_at}
use Rattle.pam_outside.specs.Paths.{path_of}
use Rattle.pam_room.specs.Call.{PlainCall, value_among}
use Rattle.pam_room.specs.Module.{NamedData, SeenRoom, Sight}
use Rattle.pam_room.specs.Say.{user_asked}
use Rattle.account_db.specs.declared.passwd.Passwd.{Passwd}
use Rattle.mod_lists.specs.Nologin.{nologin_plays}
use Rattle.laws_check.specs.Account.{HasAccount}

-- neither file exists
pub record NoNotice (root : List ℕ) (files : List File) : Type 0 where
  pub not_in_run : file_at (path_of root (codes "/var/run/nologin")) files ≡ None
  pub not_in_etc : file_at (path_of root (codes "/etc/nologin")) files ≡ None

-- the user whom pam_get_user(3) gives has the user ID 0
pub record IsRoot (root : List ℕ) (files : List File) (room : SeenRoom) : Type 0 where
  pub user : List ℕ
  pub user_is : (user_asked room).room.items.user ≡ Some user
  pub account : Passwd
  pub has_account : HasAccount root files user account
  pub is_root : account.uid ≡ 0

-- Without `file=`, each call but setcred returns SUCCESS or IGNORE only if there is no notice, or
-- the user is root.
abbrev pub OnlyRootGoesOn : Type 0
OnlyRootGoesOn =
    (call : PlainCall) (room : SeenRoom) (held : List NamedData) (sight : Sight) →
    call.func ≢ SetCred → value_among (codes "file=") call.args ≡ None →
    ((nologin_plays call room held sight).code ≡ Success)
    ⊎ ((nologin_plays call room held sight).code ≡ Ignore) →
    NoNotice sight.root sight.files ⊎ IsRoot sight.root sight.files room
