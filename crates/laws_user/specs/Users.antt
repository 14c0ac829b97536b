-- That users don't matter to each other (pam_unix(8), pam_faillock(8); the statement is this
-- project's own).
use Rattle.std.specs.Prelude.{◌≡◌, ◌≢◌, ◌⊎◌, ◌≤◌, ℕ, List, Some, codes}
use Rattle.pam_base.specs.declared.call.Func.{Func}
use Rattle.pam_base.specs.declared.call.Func.TheVariants.{ChAuthTok}
use Rattle.pam_outside.specs.Files.{File, file_at}
use Rattle.pam_outside.specs.Paths.{path_of}
use Rattle.pam_room.specs.Call.{PlainCall}
use Rattle.pam_room.specs.Module.{NamedData, Played, Plays, SeenRoom, Sight}
use Rattle.mod_tally.specs.Faillock.{faillock_plays, tally_name}
use Rattle.mod_tally.specs.Settings.{settings_of}
use Rattle.mod_unix.specs.Unix.{unix_plays}
use Rattle.laws_module.specs.Others.{AgreeFor, apart}
use Rattle.laws_module.specs.OwnEntry.{HasRoom}

-- Two sets of files look the same to a user: passwd is the same, shadow can be read in both and has
-- the same entry of the user or none, and so is the user's tally in this directory. All else may
-- differ: the entries of others in shadow, and the tallies of others.
pub record LookSame (folder user root : List ℕ) (files others : List File) : Type 0 where
  pub agree : AgreeFor user root files others
  pub tally : file_at (path_of root (tally_name folder user)) others
      ≡ file_at (path_of root (tally_name folder user)) files

-- what else a change of token needs: shadow has room for a new hash of the user
abbrev pub HasRoomFor : Func → List ℕ → List ℕ → List File → Type 0
HasRoomFor ChAuthTok user root files = HasRoom user root files
HasRoomFor func user root files = Unit {0}

-- and the time is one that a clock gives
abbrev pub IsTimely : Func → ℕ → Type 0
IsTimely ChAuthTok moment = moment ≤ 1000000000000
IsTimely func moment = Unit {0}

-- They look the same to the user in a call of this function: for a change of token, both shadows
-- have room, too.
pub record LookSameTo (func : Func) (folder user root : List ℕ) (files others : List File) : Type
    0 where
  pub look : LookSame folder user root files others
  pub here : HasRoomFor func user root files
  pub there : HasRoomFor func user root others

-- pam_unix, or pam_faillock with this directory
abbrev pub IsOneOfBoth : List ℕ → List (List ℕ) → Plays → Type 0
IsOneOfBoth folder args plays = (plays ≡ unix_plays)
    ⊎ ((plays ≡ faillock_plays) × ((settings_of args).folder ≡ folder))

-- the same was returned and done, and the files look the same to the user afterwards
pub record SameFor (func : Func) (folder user root : List ℕ) (p q : Played) : Type 0 where
  pub rest : apart p ≡ apart q
  pub look : LookSameTo func folder user root q.files p.files

-- whatever the function, the flags, the arguments, the transaction in which USER is set, the
-- conversation and the accesses that fail; a user's tally isn't shadow itself
abbrev pub UsersDontMatterToEachOther : Type 0
UsersDontMatterToEachOther =
    (plays : Plays) (folder : List ℕ) (func : Func) (flags : ℕ) (args : List (List ℕ))
    (room : SeenRoom) (held : List NamedData) (sight : Sight) (others : List File)
    (user : List ℕ) →
    IsOneOfBoth folder args plays → room.items.user ≡ Some user →
    IsTimely func sight.clock.moment →
    path_of sight.root (tally_name folder user) ≢ path_of sight.root (codes "/etc/shadow") →
    LookSameTo func folder user sight.root sight.files others →
    let call : PlainCall = record { func = func; flags = flags; args = args } in
    SameFor func folder user sight.root (plays call room held (record sight { files = others }))
    (plays call room held sight)
