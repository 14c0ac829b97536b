-- That other users' lines of shadow don't matter (pam_unix(8), shadow(5); the statement is this
-- project's own).
use Rattle.std.specs.Prelude.{◌≡◌, ◌≤◌, ℕ, List, [], Some, Ok, codes, length}
use Rattle.pam_base.specs.declared.call.Func.TheVariants.{Authenticate}
use Rattle.pam_outside.specs.Files.{File, file_at}
use Rattle.pam_outside.specs.Paths.{path_of}
use Rattle.pam_room.specs.Call.{PlainCall}
use Rattle.pam_room.specs.Module.{NamedData, Played, SeenRoom, Sight}
use Rattle.pam_room.specs.Say.{user_asked}
use Rattle.account_db.specs.declared.shadow.Shadow.{Shadow}
use Rattle.account_db.specs.Shadow.{shadow_of, shadows_of}
use Rattle.module_acts.specs.Accounts.{account_limit}
use Rattle.mod_unix.specs.Unix.{unix_plays}

-- a shadow file that can be read: no line of it is at fault, and it isn't too long
pub record IsShadow (root : List ℕ) (files : List File) (entries : List Shadow) : Type 0 where
  pub text : List ℕ
  pub text_is : file_at (path_of root (codes "/etc/shadow")) files ≡ Some text
  pub entries_are : shadows_of text ≡ Ok entries
  pub fits : length text ≤ account_limit

-- Two sets of files have the same passwd, and shadow has the same entry of this user, or none. All
-- else may differ, also the entries of others.
pub record AgreeFor (user root : List ℕ) (files others : List File) : Type 0 where
  pub passwd : file_at (path_of root (codes "/etc/passwd")) others
      ≡ file_at (path_of root (codes "/etc/passwd")) files
  pub entries : List Shadow
  pub first : IsShadow root files entries
  pub later : List Shadow
  pub second : IsShadow root others later
  pub entry : shadow_of user later ≡ shadow_of user entries

-- all that a call returns and does, except the files, which it leaves as they are
abbrev pub apart : Played → Played
apart p = record p { files = [] }

-- With other files that agree for the user whom pam_get_user(3) gives, authenticate does the same:
-- its code, its prompts and all else that it does to the transaction, the data that it sets, and
-- how often it reads files.
abbrev pub OthersDontMatter : Type 0
OthersDontMatter =
    (call : PlainCall) (room : SeenRoom) (held : List NamedData) (sight : Sight)
    (others : List File) (user : List ℕ) → call.func ≡ Authenticate →
    (user_asked room).room.items.user ≡ Some user → AgreeFor user sight.root sight.files others →
    apart (unix_plays call room held (record sight { files = others }))
    ≡ apart (unix_plays call room held sight)
