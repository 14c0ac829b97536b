-- What a change of a token leaves (pam_unix(8), chauthtok; the statement is this project's own).
use Rattle.std.specs.Prelude.{◌≡◌, ◌≢◌, ◌⊎◌, ℕ, true, List, [], Some, Ok, codes, unwrap_or}
use Rattle.pam_base.specs.declared.code.Code.TheVariants.{Success}
use Rattle.pam_outside.specs.Files.{File, file_at}
use Rattle.pam_room.specs.Call.{PlainCall, has_flag}
use Rattle.pam_room.specs.Module.{Played, SeenRoom, Sight}
use Rattle.account_db.specs.declared.shadow.Shadow.{Shadow}
use Rattle.account_db.specs.Shadow.{shadow_of, shadows_of}
use Rattle.pam_outside.specs.Paths.{path_of}
use Rattle.mod_unix.specs.Flags.{change_expired_authtok}
use Rattle.mod_unix.specs.Verify.{hash_verified}

-- the path of shadow
abbrev pub shadow_path : List ℕ → List ℕ
shadow_path root = path_of root (codes "/etc/shadow")

-- AUTHTOK is a token that the user's entry in shadow accepts; the entries of all others, and all
-- other files, are as they were.
pub record TokenIsChanged (root user : List ℕ) (before : List File) (room : SeenRoom)
    (after : List File) : Type 0 where
  pub token : List ℕ
  pub token_is : room.items.auth_tok ≡ Some token
  pub old : List ℕ
  pub old_is : file_at (shadow_path root) before ≡ Some old
  pub entries : List Shadow
  pub entries_are : shadows_of old ≡ Ok entries
  pub new : List ℕ
  pub new_is : file_at (shadow_path root) after ≡ Some new
  pub changed : List Shadow
  pub changed_are : shadows_of new ≡ Ok changed
  pub entry : Shadow
  pub entry_is : shadow_of user changed ≡ Some entry
  pub verified : hash_verified entry.hash token ≡ Success
  pub others : (other : List ℕ) → other ≢ user → shadow_of other changed ≡ shadow_of other entries
  pub files : (path : List ℕ) → path ≢ shadow_path root → file_at path after ≡ file_at path before

-- The files are as before, since with this flag a token that need not be changed stays; or the
-- token was changed.
abbrev pub StaysOrIsChanged : PlainCall → Sight → Played → Type 0
StaysOrIsChanged call sight played =
    ((has_flag call.flags change_expired_authtok ≡ true) × (played.files ≡ sight.files)) ⊎
    TokenIsChanged sight.root (unwrap_or played.room.items.user []) sight.files played.room
    played.files
