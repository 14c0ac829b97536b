-- Where pam_securetty lets root in (pam_securetty(8), securetty(5); the statement is this project's
-- own).
use Rattle.std.specs.Prelude.{◌≡◌, ◌≢◌, ◌⊎◌, ℕ, true, List, Some, None, codes}
use Rattle.pam_base.specs.declared.call.Func.TheVariants.{SetCred}
use Rattle.pam_base.specs.declared.code.Code.TheVariants.{Success}
use Rattle.pam_outside.specs.Files.{File, file_at}
use Rattle.pam_outside.specs.Paths.{path_of}
use Rattle.pam_room.specs.Call.{PlainCall}
use Rattle.pam_room.specs.Module.{NamedData, SeenRoom, Sight}
use Rattle.pam_room.specs.Say.{user_asked}
use Rattle.account_db.specs.declared.passwd.Passwd.{Passwd}
use Rattle.mod_history.specs.Securetty.{is_secure, securetty_plays, terminal_name}
use Rattle.laws_check.specs.Account.{HasAccount}

-- the list exists, and has a line with the terminal's name
pub record IsListed (root : List ℕ) (files : List File) (tty : List ℕ) : Type 0 where
  pub list : List ℕ
  pub list_is : file_at (path_of root (codes "/etc/securetty")) files ≡ Some list
  pub listed : is_secure (terminal_name tty) list ≡ true

-- TTY is set, and there is no list, or that terminal is listed
pub record IsSecure (root : List ℕ) (files : List File) (room : SeenRoom) : Type 0 where
  pub tty : List ℕ
  pub tty_is : room.items.tty ≡ Some tty
  pub secure : (file_at (path_of root (codes "/etc/securetty")) files ≡ None)
      ⊎ IsListed root files tty

-- the user whom pam_get_user(3) gives has an account, and, if its user ID is 0, a secure terminal
pub record MayLogIn (root : List ℕ) (files : List File) (room : SeenRoom) : Type 0 where
  pub user : List ℕ
  pub user_is : (user_asked room).room.items.user ≡ Some user
  pub account : Passwd
  pub has_account : HasAccount root files user account
  pub root_is_there : account.uid ≡ 0 → IsSecure root files room

-- each call but setcred returns SUCCESS only then
abbrev pub RootIsThere : Type 0
RootIsThere =
    (call : PlainCall) (room : SeenRoom) (held : List NamedData) (sight : Sight) →
    call.func ≢ SetCred → (securetty_plays call room held sight).code ≡ Success →
    MayLogIn sight.root sight.files room
