-- Whom pam_listfile lets in (pam_listfile(8); the statement is this project's own).
use Rattle.std.specs.Prelude.{◌≡◌, ◌≢◌, ℕ, true, false, List, [], ◌∷◌, Some, codes}
use Rattle.pam_base.specs.declared.call.Func.TheVariants.{SetCred}
use Rattle.pam_base.specs.declared.code.Code.TheVariants.{Success}
use Rattle.pam_outside.specs.Files.{File, file_at}
use Rattle.pam_outside.specs.Paths.{path_of}
use Rattle.pam_room.specs.Call.{PlainCall, value_among}
use Rattle.pam_room.specs.Module.{NamedData, SeenRoom, Sight}
use Rattle.pam_room.specs.Say.{user_asked}
use Rattle.mod_lists.specs.Listfile.{is_listed, is_succeed, listfile_plays}

-- the file has a line with the name of the user whom pam_get_user(3) gives
pub record IsNamed (root : List ℕ) (files : List File) (room : SeenRoom) (file : List ℕ) : Type
    0 where
  pub user : List ℕ
  pub user_is : (user_asked room).room.items.user ≡ Some user
  pub text : List ℕ
  pub text_is : file_at (path_of root file) files ≡ Some text
  pub listed : is_listed (user ∷ []) text ≡ true

-- With `item=user`, `sense=allow` and `file=`, and without `onerr=succeed`, each call but setcred
-- returns SUCCESS only then.
abbrev pub AllowedAreNamed : Type 0
AllowedAreNamed =
    (call : PlainCall) (room : SeenRoom) (held : List NamedData) (sight : Sight) (file : List ℕ) →
    call.func ≢ SetCred → value_among (codes "item=") call.args ≡ Some (codes "user") →
    value_among (codes "sense=") call.args ≡ Some (codes "allow") →
    value_among (codes "file=") call.args ≡ Some file →
    is_succeed (value_among (codes "onerr=") call.args) ≡ false →
    (listfile_plays call room held sight).code ≡ Success →
    IsNamed sight.root sight.files room file

-- the file has no line with the name of the user whom pam_get_user(3) gives
pub record IsNotNamed (root : List ℕ) (files : List File) (room : SeenRoom) (file : List ℕ) : Type
    0 where
  pub user : List ℕ
  pub user_is : (user_asked room).room.items.user ≡ Some user
  pub not_listed : (text : List ℕ) → file_at (path_of root file) files ≡ Some text →
      is_listed (user ∷ []) text ≡ false

-- With `item=user`, `sense=deny` and `file=`, and without `onerr=succeed`, each call but setcred
-- returns SUCCESS only then.
abbrev pub DeniedAreNotNamed : Type 0
DeniedAreNotNamed =
    (call : PlainCall) (room : SeenRoom) (held : List NamedData) (sight : Sight) (file : List ℕ) →
    call.func ≢ SetCred → value_among (codes "item=") call.args ≡ Some (codes "user") →
    value_among (codes "sense=") call.args ≡ Some (codes "deny") →
    value_among (codes "file=") call.args ≡ Some file →
    is_succeed (value_among (codes "onerr=") call.args) ≡ false →
    (listfile_plays call room held sight).code ≡ Success →
    IsNotNamed sight.root sight.files room file
