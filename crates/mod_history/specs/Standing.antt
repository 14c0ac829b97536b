-- What the history has after a list of calls of pam_pwhistory(8), which may be from many transactions (this project's
-- own): for each user the hashes that were there and those that were added, and of these the last n.
use Rattle.std.specs.Prelude.{◌≡◌, ℕ, Bool, true, false, ◌||◌, if◌then◌else◌, List, [], ◌∷◌, map, Option, Some, None, codes, unwrap_or}
use Rattle.std.specs.Str.{bytes_eq}
use Rattle.pam_base.specs.declared.code.Code.{Code}
use Rattle.pam_base.specs.declared.code.Code.TheVariants.{Success}
use Rattle.pam_outside.specs.Files.{File, file_at}
use Rattle.pam_outside.specs.Paths.{path_of}
use Rattle.pam_room.specs.Call.{PlainCall}
use Rattle.pam_room.specs.Module.{NamedData, Played, SeenRoom, Sight}
use Rattle.pam_room.specs.Say.{user_asked}
use Rattle.module_acts.specs.declared.content.Content.{Content}
use Rattle.account_db.specs.declared.passwd.Passwd.{Passwd}
use Rattle.account_db.specs.Passwd.{entry_of}
use Rattle.module_acts.specs.Accounts.{account_limit, passwds_in}
use Rattle.module_acts.specs.Content.{text_within}
use Rattle.mod_unix.specs.declared.look.KnownPassword.{KnownPassword}
use Rattle.mod_unix.specs.declared.look.KnownPassword.TheVariants.{Unknown, Unavailable, Plain, Shadowed}
use Rattle.mod_unix.specs.Look.{is_x, shadow_in}
use Rattle.mod_history.specs.declared.history.Remembered.{Remembered}
use Rattle.mod_history.specs.History.{history_of, history_text}
use Rattle.mod_history.specs.Pwhistory.{pwhistory_plays, remember_of}
use Rattle.mod_history.specs.Renewal.{hashes_of, line_of, renewed, renewed_hashes, with_hash}

-- the lines of a file; None if it is damaged
abbrev pub history_on_file : Option (List ℕ) → Option (List Remembered)
history_on_file None = Some []
history_on_file (Some text) = history_of text

-- ---- the present hash

abbrev pub hash_in : KnownPassword → Option (List ℕ)
hash_in Unknown = None
hash_in Unavailable = None
hash_in (Plain hash) = Some hash
hash_in (Shadowed entry) = Some entry.hash

-- a password field `x` means that the hash is in shadow; any other is the hash
abbrev pub hash_by : Bool → List ℕ → List ℕ → Content → Option (List ℕ)
hash_by true user field shadow = hash_in (shadow_in user shadow)
hash_by false user field shadow = Some field

abbrev pub entry_hash : List ℕ → Option Passwd → Content → Option (List ℕ)
entry_hash user (Some entry) shadow = hash_by (is_x entry.password) user entry.password shadow
entry_hash user None shadow = None

abbrev pub passwd_hash : List ℕ → Option (List Passwd) → Content → Option (List ℕ)
passwd_hash user (Some entries) shadow = entry_hash user (entry_of user entries) shadow
passwd_hash user None shadow = None

-- the text of an account file
abbrev pub account_text : List ℕ → List ℕ → List File → Content
account_text root name files = text_within account_limit (file_at (path_of root name) files)

-- a user's hash, by passwd and shadow
abbrev pub present_hash : List ℕ → List File → List ℕ → Option (List ℕ)
present_hash root files user =
    passwd_hash user (passwds_in (account_text root (codes "/etc/passwd") files))
    (account_text root (codes "/etc/shadow") files)

-- ---- what one call does

-- It leaves the file, or it replaces it for a user with a present hash.
pub data Deed : Type 0 where
  left : Deed
  replaced : List ℕ → List ℕ → Deed

-- A call returned SUCCESS, and in the file only the user's line has changed: it is renewed with the
-- user's hash.
pub record Replaces (path : List ℕ) (call : PlainCall) (room : SeenRoom) (root : List ℕ)
    (before : List File) (code : Code) (after : List File) (user hash : List ℕ) : Type 0 where
  pub code_is : code ≡ Success
  pub user_is : user ≡ unwrap_or (user_asked room).room.items.user []
  pub hash_is : present_hash root before user ≡ Some hash
  pub on_file : List Remembered
  pub stood : history_on_file (file_at path before) ≡ Some on_file
  pub stands : file_at path after ≡ Some (history_text (renewed (remember_of call.args) user hash
      on_file))

abbrev pub DoesTo : List ℕ → PlainCall → SeenRoom → List ℕ → List File → Code → List File → Deed
    → Type 0
DoesTo path call room root before code after left = file_at path after ≡ file_at path before
DoesTo path call room root before code after (replaced user hash) =
    Replaces path call room root before code after user hash

-- what a call did to the file with this path, given what it saw, what it returned and what it
-- changed
abbrev pub Does : List ℕ → PlainCall → SeenRoom → Sight → Played → Deed → Type 0
Does path call room sight p deed = DoesTo path call room sight.root sight.files p.code p.files deed

-- ---- a list of calls

-- a call of the module, what it saw, and what it did to the file
pub record Served : Type 0 where
  pub call : PlainCall
  pub room : SeenRoom
  pub held : List NamedData
  pub sight : Sight
  pub deed : Deed

abbrev pub played : Served → Played
played s = pwhistory_plays s.call s.room s.held s.sight

abbrev pub deeds_of : List Served → List Deed
deeds_of calls = map (λ (s : Served). s.deed) calls

-- Only these calls changed the file with this path: each finds it as the one before left it.
abbrev pub Follow : List ℕ → Option (List ℕ) → List Served → Option (List ℕ) → Type 0
Follow path before [] after = after ≡ before
Follow path before (s ∷ ss) after =
    (file_at path s.sight.files ≡ before)
    × Does path s.call s.room s.sight (played s) s.deed
    × Follow path (file_at path (played s).files) ss after

-- all calls use one `remember`
abbrev pub Remembers : ℕ → Served → Type 0
Remembers remember s = remember_of s.call.args ≡ remember

-- ---- what the file has after it

-- a user's hashes: each pass that replaced the file for the user adds the present one, and keeps the last n
abbrev pub kept_by : ℕ → List ℕ → List Deed → List (List ℕ) → List (List ℕ)
kept_by remember user [] hashes = hashes
kept_by remember user (left ∷ ds) hashes = kept_by remember user ds hashes
kept_by remember user (replaced name hash ∷ ds) hashes =
    kept_by remember user ds (if bytes_eq name user then renewed_hashes remember hash hashes
    else hashes)

-- whether a call replaced the file for the user
abbrev pub is_renewed : List ℕ → List Deed → Bool
is_renewed user [] = false
is_renewed user (left ∷ ds) = is_renewed user ds
is_renewed user (replaced name hash ∷ ds) = bytes_eq name user || is_renewed user ds

-- the hashes that were there, and those that were added
abbrev pub added_by : List ℕ → List Deed → List (List ℕ) → List (List ℕ)
added_by user [] hashes = hashes
added_by user (left ∷ ds) hashes = added_by user ds hashes
added_by user (replaced name hash ∷ ds) hashes =
    added_by user ds (if bytes_eq name user then with_hash hash hashes else hashes)

-- The file has these lines: each user's hashes are those that were kept, and the line of a user for whom the file
-- wasn't replaced is as it was.
pub record KeepsHashes (remember : ℕ) (deeds : List Deed) (before : List Remembered)
    (after : Option (List ℕ)) : Type 0 where
  pub on_file : List Remembered
  pub stands : history_on_file after ≡ Some on_file
  pub hashes : (user : List ℕ) → hashes_of user on_file ≡ kept_by remember user deeds
      (hashes_of user before)
  pub others : (user : List ℕ) → is_renewed user deeds ≡ false → line_of user on_file
      ≡ line_of user before
