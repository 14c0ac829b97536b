-- That what other users do meanwhile doesn't matter (the statement is this project's own).
use Rattle.std.specs.Prelude.{◌≡◌, ◌≢◌, ℕ, List, [], ◌∷◌, Some, codes}
use Rattle.pam_base.specs.declared.call.Func.{Func}
use Rattle.pam_base.specs.declared.code.Code.{Code}
use Rattle.pam_outside.specs.Files.{File}
use Rattle.pam_outside.specs.Paths.{path_of}
use Rattle.pam_room.specs.Module.{Player}
use Rattle.pam_room.specs.State.{PlainWorld}
use Rattle.account_db.specs.declared.shadow.Shadow.{Shadow}
use Rattle.pam_handle.specs.Handle.{PlainHandle}
use Rattle.pam_handle.specs.StackCalls.{stack_call}
use Rattle.mod_tally.specs.Faillock.{tally_name}
use Rattle.laws_denial.specs.Kept_out.{EachLine}
use Rattle.laws_module.specs.Others.{IsShadow}
use Rattle.laws_user.specs.Calls.{EndAlike, IsOwnLine, stack_run, with_files}
use Rattle.laws_user.specs.Users.{HasRoomFor, IsTimely}

-- a call that runs a stack: its function and flags, USER, its transaction, and the world of its
-- process
pub record UserCall : Type 0 where
  pub func : Func
  pub flags : ℕ
  pub user : List ℕ
  pub handle : PlainHandle
  pub world : PlainWorld

-- it is over a stack whose lines keep to the user's own entries, this is its USER, and its time is
-- one that a clock gives
pub record IsOwn (players : List Player) (folder : List ℕ) (c : UserCall) : Type 0 where
  pub lines : EachLine (IsOwnLine players c.func folder) 1 (stack_run c.func c.handle)
  pub user_is : c.handle.room.transaction.items.user ≡ Some c.user
  pub is_timely : IsTimely c.func c.world.clock.moment

-- no file that a user's call looks at is this one
pub record IsElsewhere (folder user root path : List ℕ) : Type 0 where
  pub passwd : path ≢ path_of root (codes "/etc/passwd")
  pub shadow : path ≢ path_of root (codes "/etc/shadow")
  pub tally : path ≢ path_of root (tally_name folder user)

module _ (players : List Player) (number_of : Code → ℕ → ℕ) where
  abbrev pub files_after : UserCall → List File
  files_after c =
      (stack_call players number_of c.func c.flags c.handle c.world).world.vault.files

  -- Calls of others, in whatever processes, lead from files to files: each finds them as the one
  -- before left them. Their tallies are elsewhere.
  abbrev pub OthersCall : List ℕ → List ℕ → List ℕ → List File → List UserCall → List File → Type
      0
  OthersCall folder user root before [] after = after ≡ before
  OthersCall folder user root before (c ∷ cs) after =
      IsOwn players folder c × (c.world.vault.files ≡ before) × (c.world.process.root ≡ root)
      × IsElsewhere folder user root (path_of root (tally_name folder c.user))
      × OthersCall folder user root (files_after c) cs after

-- Whoever else logs in or changes a token meanwhile, whether they succeed or fail: a user's call
-- returns the same and leaves the same, if shadow can be read, and for a change of token has room
-- before and after.
abbrev pub CallsDontMatter : Type 0
CallsDontMatter =
    (players : List Player) (number_of : Code → ℕ → ℕ) (folder : List ℕ) (c : UserCall)
    (entries : List Shadow) (others : List UserCall) (after : List File) →
    let root = c.world.process.root in
    IsOwn players folder c → IsShadow root c.world.vault.files entries →
    HasRoomFor c.func c.user root c.world.vault.files → HasRoomFor c.func c.user root after →
    path_of root (tally_name folder c.user) ≢ path_of root (codes "/etc/shadow") →
    OthersCall players number_of folder c.user root c.world.vault.files others after →
    EndAlike c.func folder c.user
    (stack_call players number_of c.func c.flags c.handle c.world)
    (stack_call players number_of c.func c.flags c.handle (with_files after c.world))
