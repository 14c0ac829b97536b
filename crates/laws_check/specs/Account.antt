-- What a law on a module that checks the user says of the user's account (passwd(5); this project's
-- own).
use Rattle.std.specs.Prelude.{◌≡◌, ℕ, List, Some, Ok, codes}
use Rattle.pam_outside.specs.Files.{File, file_at}
use Rattle.pam_outside.specs.Paths.{path_of}
use Rattle.account_db.specs.declared.passwd.Passwd.{Passwd}
use Rattle.account_db.specs.Passwd.{entry_of, passwds_of}

-- the user has this entry in passwd, in which no line is at fault
pub record HasAccount (root : List ℕ) (files : List File) (user : List ℕ) (account : Passwd) : Type
    0 where
  pub passwd : List ℕ
  pub passwd_is : file_at (path_of root (codes "/etc/passwd")) files ≡ Some passwd
  pub accounts : List Passwd
  pub accounts_are : passwds_of passwd ≡ Ok accounts
  pub account_is : entry_of user accounts ≡ Some account
