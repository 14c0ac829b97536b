-- Whom pam_shells lets in (pam_shells(8), shells(5); the statement is this project's own).
use Rattle.std.specs.Prelude.{◌≡◌, ◌≢◌, ℕ, true, List, Some, codes}
use Rattle.pam_base.specs.declared.call.Func.TheVariants.{SetCred}
use Rattle.pam_base.specs.declared.code.Code.TheVariants.{Success}
use Rattle.pam_outside.specs.Files.{File, file_at}
use Rattle.pam_outside.specs.Paths.{path_of}
use Rattle.pam_room.specs.Call.{PlainCall}
use Rattle.pam_room.specs.Module.{NamedData, SeenRoom, Sight}
use Rattle.pam_room.specs.Say.{user_asked}
use Rattle.account_db.specs.declared.passwd.Passwd.{Passwd}
use Rattle.account_db.specs.Shells.{shells_of}
use Rattle.mod_lists.specs.Shells.{is_listed, login_shell, shells_plays}
use Rattle.laws_check.specs.Account.{HasAccount}

-- the user whom pam_get_user(3) gives has an account, whose shell is one of /etc/shells
pub record HasListedShell (root : List ℕ) (files : List File) (room : SeenRoom) : Type 0 where
  pub user : List ℕ
  pub user_is : (user_asked room).room.items.user ≡ Some user
  pub account : Passwd
  pub has_account : HasAccount root files user account
  pub shells : List ℕ
  pub shells_is : file_at (path_of root (codes "/etc/shells")) files ≡ Some shells
  pub listed : is_listed (login_shell account.shell) (shells_of shells) ≡ true

-- each call but setcred returns SUCCESS only then
abbrev pub ShellIsListed : Type 0
ShellIsListed =
    (call : PlainCall) (room : SeenRoom) (held : List NamedData) (sight : Sight) →
    call.func ≢ SetCred → (shells_plays call room held sight).code ≡ Success →
    HasListedShell sight.root sight.files room
