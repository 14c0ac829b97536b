-- The modules other than pam_faillock(8), and where its files are (this project's own).
use Rattle.std.specs.Prelude.{◌≡◌, ◌≢◌, ◌⊎◌, ◌==◌, ℕ, true, false, List, [], ◌∷◌, ◌++◌, codes}
use Rattle.std.specs.List.{AllByRecursion, list_any}
use Rattle.pam_outside.specs.Paths.{path_of}
use Rattle.pam_room.specs.Module.{Player, Plays}
use Rattle.mod_basic.specs.Permit.{permit_plays}
use Rattle.mod_basic.specs.Deny.{deny_plays}
use Rattle.mod_basic.specs.Debug.{debug_plays}
use Rattle.mod_basic.specs.Rootok.{rootok_plays}
use Rattle.mod_basic.specs.Probe.{probe_plays}
use Rattle.mod_lists.specs.Listfile.{listfile_plays}
use Rattle.mod_lists.specs.Nologin.{nologin_plays}
use Rattle.mod_lists.specs.Shells.{shells_plays}
use Rattle.mod_lists.specs.SucceedIf.{succeed_if_plays}
use Rattle.mod_env.specs.Env.{env_plays}
use Rattle.mod_unix.specs.Unix.{unix_plays}
use Rattle.mod_unix.specs.module_acts.specs.Content.{is_rooted}
use Rattle.mod_tally.specs.Faillock.{faillock_plays, tally_name}
use Rattle.mod_history.specs.Wheel.{wheel_plays}
use Rattle.mod_history.specs.Securetty.{securetty_plays}
use Rattle.mod_history.specs.Pwhistory.{pwhistory_plays}

-- ---- the modules

-- what the fourteen others do
abbrev pub other_plays : List Plays
other_plays =
    permit_plays ∷ deny_plays ∷ debug_plays ∷ rootok_plays ∷ probe_plays
    ∷ listfile_plays ∷ nologin_plays ∷ shells_plays ∷ succeed_if_plays
    ∷ env_plays ∷ unix_plays ∷ wheel_plays ∷ securetty_plays ∷ pwhistory_plays ∷ []

abbrev pub IsAmong : Plays → List Plays → Type 0
IsAmong plays [] = ⊥
IsAmong plays (p ∷ ps) = (plays ≡ p) ⊎ IsAmong plays ps

-- each module is pam_faillock or one of the others
abbrev pub AreKnown : List Player → Type 0
AreKnown players = AllByRecursion (λ (p : Player). IsAmong p.plays (faillock_plays ∷ other_plays))
    players

-- ---- the files

-- a part of a path
abbrev pub IsPart : List ℕ → Type 0
IsPart name = list_any (λ b. b == 47) name ≡ false

-- A directory in which no other module replaces a file: it is named by a path from the root, and the last part of that
-- is neither `etc`, where shadow(5) is, nor `security`, where the history of pam_pwhistory(8) is.
pub record IsApart (folder : List ℕ) : Type 0 where
  pub rooted : is_rooted folder ≡ true
  pub above : List ℕ
  pub last : List ℕ
  pub directory_is : folder ≡ above ++ 47 ∷ last
  pub part : IsPart last
  pub not_etc : last ≢ codes "etc"
  pub not_security : last ≢ codes "security"

-- the path of a user's file, under a root and with this `dir=`
abbrev pub tally_path : List ℕ → List ℕ → List ℕ → List ℕ
tally_path root folder user = path_of root (tally_name folder user)
