-- That of shadow pam_unix looks at the user's entry alone, and changes no other (pam_unix(8),
-- shadow(5); the statement is this project's own).
use Rattle.std.specs.Prelude.{◌≡◌, ◌≢◌, ◌≤◌, ℕ, List, [], ◌∷◌, Some, codes, length}
use Rattle.pam_base.specs.declared.call.Func.TheVariants.{ChAuthTok}
use Rattle.pam_outside.specs.Files.{File, file_at}
use Rattle.pam_outside.specs.Paths.{path_of}
use Rattle.pam_room.specs.Call.{PlainCall}
use Rattle.pam_room.specs.Module.{NamedData, Played, SeenRoom, Sight}
use Rattle.pam_room.specs.Say.{user_asked}
use Rattle.account_db.specs.declared.shadow.Shadow.{Shadow}
use Rattle.account_db.specs.Replace.{with_hash}
use Rattle.account_db.specs.Shadow.{shadow_of}
use Rattle.module_acts.specs.Accounts.{account_limit}
use Rattle.mod_unix.specs.Aging.{day_of}
use Rattle.mod_unix.specs.NewHash.{hashed_token}
use Rattle.mod_unix.specs.Unix.{unix_plays}
use Rattle.laws_module.specs.Others.{AgreeFor, IsShadow, apart}

-- ---- what a change of token needs

-- a new hash of a user as pam_unix makes it: under these arguments, with this random word, of this
-- token, at this time, which is one that a clock gives
pub record NewHash : Type 0 where
  pub args : List (List ℕ)
  pub word : ℕ
  pub token : List ℕ
  pub moment : ℕ
  pub is_time : moment ≤ 1000000000000

-- the text of shadow after the user got these hashes, one after the other
abbrev pub with_hashes : List ℕ → List NewHash → List ℕ → List ℕ
with_hashes user [] text = text
with_hashes user (h ∷ hs) text = with_hashes user hs
    (with_hash user (hashed_token h.args h.word h.token) (day_of h.moment) text)

-- shadow doesn't get too long, whatever hashes the user gets
abbrev pub HasRoom : List ℕ → List ℕ → List File → Type 0
HasRoom user root files =
    (text : List ℕ) (hashes : List NewHash) →
    file_at (path_of root (codes "/etc/shadow")) files ≡ Some text →
    length (with_hashes user hashes text) ≤ account_limit

-- Two sets of files agree for the user; in both, shadow has room for a new hash; and the time is one
-- that a clock gives.
pub record AgreeToChange (user root : List ℕ) (moment : ℕ) (files others : List File) : Type
    0 where
  pub agree : AgreeFor user root files others
  pub here : HasRoom user root files
  pub there : HasRoom user root others
  pub is_time : moment ≤ 1000000000000

-- ---- what others have doesn't matter

-- the same was returned and done, and the files agree for the user afterwards, too
pub record SameAndAgree (user root : List ℕ) (p q : Played) : Type 0 where
  pub rest : apart p ≡ apart q
  pub agree : AgreeFor user root q.files p.files

-- With other files that agree for the user whom pam_get_user(3) gives, each function except
-- chauthtok does the same: its code, its prompts and all else that it does to the transaction, the
-- data that it sets, and how often it reads files.
abbrev pub OthersDontMatterUnlessChanged : Type 0
OthersDontMatterUnlessChanged =
    (call : PlainCall) (room : SeenRoom) (held : List NamedData) (sight : Sight)
    (others : List File) (user : List ℕ) → call.func ≢ ChAuthTok →
    (user_asked room).room.items.user ≡ Some user → AgreeFor user sight.root sight.files others →
    SameAndAgree user sight.root (unix_plays call room held (record sight { files = others }))
    (unix_plays call room held sight)

-- Both passes of chauthtok do the same, too, if shadow has room: also the locks that they take, and
-- the user's entry in the new shadow.
abbrev pub OthersDontMatterToChange : Type 0
OthersDontMatterToChange =
    (call : PlainCall) (room : SeenRoom) (held : List NamedData) (sight : Sight)
    (others : List File) (user : List ℕ) → call.func ≡ ChAuthTok →
    (user_asked room).room.items.user ≡ Some user →
    AgreeToChange user sight.root sight.clock.moment sight.files others →
    let p = unix_plays call room held (record sight { files = others }) in
    let q = unix_plays call room held sight in
    (apart p ≡ apart q) × AgreeToChange user sight.root sight.clock.moment q.files p.files

-- ---- what others have stays

-- shadow can be read afterwards, and has the same entries of all others
pub record OthersIn (user root : List ℕ) (entries : List Shadow) (after : List File) : Type 0 where
  pub changed : List Shadow
  pub shadow_is : IsShadow root after changed
  pub stay : (other : List ℕ) → other ≢ user → shadow_of other changed ≡ shadow_of other entries

-- all files except shadow stay, and in shadow, if it can be read, the entries of all others do
pub record OthersStay (user root : List ℕ) (before after : List File) : Type 0 where
  pub files : (path : List ℕ) → path ≢ path_of root (codes "/etc/shadow")
      → file_at path after ≡ file_at path before
  pub entries : (es : List Shadow) → IsShadow root before es → OthersIn user root es after

-- that, and USER still is this user, if it was set
pub record LeavesOthers (user root : List ℕ) (before : List File) (room : SeenRoom)
    (p : Played) : Type 0 where
  pub others : OthersStay user root before p.files
  pub user_is : room.items.user ≡ Some user → p.room.items.user ≡ Some user

-- Each call leaves the entries of all but the user whom pam_get_user(3) gives, whatever the files
-- and the accesses that fail; the time is one that a clock gives.
abbrev pub OtherEntriesStay : Type 0
OtherEntriesStay =
    (call : PlainCall) (room : SeenRoom) (held : List NamedData) (sight : Sight) (user : List ℕ) →
    (user_asked room).room.items.user ≡ Some user → sight.clock.moment ≤ 1000000000000 →
    LeavesOthers user sight.root sight.files room (unix_plays call room held sight)

-- all files stay, and USER still is this user, if it was set
pub record LeavesFiles (user : List ℕ) (before : List File) (room : SeenRoom) (p : Played) : Type
    0 where
  pub files_are : p.files ≡ before
  pub user_is : room.items.user ≡ Some user → p.room.items.user ≡ Some user

-- Each call of a function except chauthtok leaves all files.
abbrev pub FilesStayUnlessChanged : Type 0
FilesStayUnlessChanged =
    (call : PlainCall) (room : SeenRoom) (held : List NamedData) (sight : Sight) (user : List ℕ) →
    call.func ≢ ChAuthTok → (user_asked room).room.items.user ≡ Some user →
    LeavesFiles user sight.files room (unix_plays call room held sight)
