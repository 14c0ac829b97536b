-- That other users' tallies don't matter to pam_faillock, and stay (pam_faillock(8); the statement
-- is this project's own).
use Rattle.std.specs.Prelude.{◌≡◌, ◌≢◌, ℕ, List, Some, codes}
use Rattle.pam_outside.specs.Files.{File, file_at}
use Rattle.pam_outside.specs.Paths.{path_of}
use Rattle.pam_room.specs.Call.{PlainCall}
use Rattle.pam_room.specs.Module.{NamedData, Played, SeenRoom, Sight}
use Rattle.pam_room.specs.Say.{user_asked}
use Rattle.mod_tally.specs.Faillock.{faillock_plays, tally_name}
use Rattle.mod_tally.specs.Settings.{PlainSettings, settings_of}
use Rattle.laws_module.specs.Others.{apart}

-- the user's tally file
abbrev pub tally_of : PlainSettings → List ℕ → List ℕ → List ℕ
tally_of s root user = path_of root (tally_name s.folder user)

-- Two sets of files have the same passwd and the same tally of this user. All else may differ, also
-- shadow and the tallies of others.
pub record SameTally (s : PlainSettings) (user root : List ℕ) (files others : List File) : Type
    0 where
  pub passwd : file_at (path_of root (codes "/etc/passwd")) others
      ≡ file_at (path_of root (codes "/etc/passwd")) files
  pub tally : file_at (tally_of s root user) others ≡ file_at (tally_of s root user) files

-- the same was returned and done, except that the files may differ, but not the user's tally
pub record SameFor (s : PlainSettings) (user root : List ℕ) (p q : Played) : Type 0 where
  pub rest : apart p ≡ apart q
  pub tally : file_at (tally_of s root user) p.files ≡ file_at (tally_of s root user) q.files

-- With other files in which passwd, and the tally of the user whom pam_get_user(3) gives, are the
-- same, each call does the same: its code, its prompts and all else that it does to the
-- transaction, the locks that it takes, how often it reads and replaces files, and the tally that
-- it leaves.
abbrev pub OtherTalliesDontMatter : Type 0
OtherTalliesDontMatter =
    (call : PlainCall) (room : SeenRoom) (held : List NamedData) (sight : Sight)
    (others : List File) (user : List ℕ) → (user_asked room).room.items.user ≡ Some user →
    SameTally (settings_of call.args) user sight.root sight.files others →
    SameFor (settings_of call.args) user sight.root
    (faillock_plays call room held (record sight { files = others }))
    (faillock_plays call room held sight)

-- no call changes any file but the tally of the user whom pam_get_user(3) gives
abbrev pub OtherFilesStay : Type 0
OtherFilesStay =
    (call : PlainCall) (room : SeenRoom) (held : List NamedData) (sight : Sight) (user : List ℕ)
    (path : List ℕ) → (user_asked room).room.items.user ≡ Some user →
    tally_of (settings_of call.args) sight.root user ≢ path →
    file_at path (faillock_plays call room held sight).files ≡ file_at path sight.files
