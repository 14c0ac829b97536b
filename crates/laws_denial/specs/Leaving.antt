-- Modules whose authenticate leaves the user's name and all files as they are (this project's own).
use Rattle.std.specs.Prelude.{◌≡◌, ℕ, List, [], ◌∷◌, Some}
use Rattle.std.specs.List.{AllByRecursion}
use Rattle.pam_base.specs.declared.call.Func.TheVariants.{Authenticate}
use Rattle.pam_room.specs.Module.{NamedData, Played, Plays, SeenRoom, Sight}
use Rattle.mod_basic.specs.Permit.{permit_plays}
use Rattle.mod_basic.specs.Deny.{deny_plays}
use Rattle.mod_basic.specs.Debug.{debug_plays}
use Rattle.mod_basic.specs.Rootok.{rootok_plays}
use Rattle.mod_basic.specs.Probe.{probe_plays}
use Rattle.mod_lists.specs.Listfile.{listfile_plays}
use Rattle.mod_lists.specs.Nologin.{nologin_plays}
use Rattle.mod_lists.specs.Shells.{shells_plays}
use Rattle.mod_lists.specs.SucceedIf.{succeed_if_plays}
use Rattle.mod_env.specs.Env.{env_plays}
use Rattle.mod_unix.specs.Unix.{unix_plays}
use Rattle.mod_history.specs.Wheel.{wheel_plays}
use Rattle.mod_history.specs.Securetty.{securetty_plays}
use Rattle.mod_history.specs.Pwhistory.{pwhistory_plays}

-- USER is still this name, and no file was replaced or added
pub record LeftAlone (user : List ℕ) (sight : Sight) (p : Played) : Type 0 where
  pub user_is : p.room.items.user ≡ Some user
  pub files_are : p.files ≡ sight.files

-- whatever the flags, the arguments, the transaction, the conversation, the files and the accesses
-- that fail, authenticate leaves USER as it is if it is set, and all files
abbrev pub LeavesUserAndFiles : Plays → Type 0
LeavesUserAndFiles plays =
    (flags : ℕ) (args : List (List ℕ)) (room : SeenRoom) (held : List NamedData) (sight : Sight)
    (user : List ℕ) → room.items.user ≡ Some user →
    LeftAlone user sight
    (plays (record { func = Authenticate; flags = flags; args = args }) room held sight)

-- all modules except pam_faillock do
abbrev pub OthersLeave : Type 0
OthersLeave = AllByRecursion LeavesUserAndFiles (
    permit_plays ∷ deny_plays ∷ debug_plays ∷ rootok_plays ∷ probe_plays
    ∷ listfile_plays ∷ nologin_plays ∷ shells_plays ∷ succeed_if_plays
    ∷ env_plays ∷ unix_plays ∷ wheel_plays ∷ securetty_plays ∷ pwhistory_plays ∷ [])
