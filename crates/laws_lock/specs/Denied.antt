-- That a user who is locked is denied by a whole stack (pam.conf(5), pam_faillock(8); the statement
-- is this project's own).
use Rattle.std.specs.Prelude.{◌≡◌, ℕ, List, [], ◌∷◌, Some, codes, slice_get}
use Rattle.pam_base.specs.declared.call.Func.TheVariants.{Authenticate}
use Rattle.pam_base.specs.declared.code.Code.TheVariants.{AuthErr}
use Rattle.control_words.specs.declared.nodes.Rule.{Rule}
use Rattle.control_words.specs.Keyword.{requisite}
use Rattle.control_words.specs.Stack.{Stack, line}
use Rattle.handler_chain.specs.FlatLines.{module_of}
use Rattle.handler_chain.specs.declared.pass_kind.PassKind.TheVariants as kinds
use Rattle.handler_chain.specs.Route.{KeptAnswers}
use Rattle.handler_chain.specs.Walk.{Walked, code_of}
use Rattle.handler_chain.specs.Pass.{PassState, pass_after, visit}
use Rattle.pam_room.specs.Module.{Player, sight_of}
use Rattle.pam_room.specs.State.{State, scene_in}
use Rattle.dispatch_core.specs.Lines.{answers_by, names_of}
use Rattle.mod_tally.specs.Faillock.{faillock_plays}
use Rattle.mod_tally.specs.Settings.{settings_of, task_among, task_word}
use Rattle.laws_lock.specs.Locked.{IsLocked}

-- among these modules, the line's is pam_faillock
pub record IsFaillock (players : List Player) (rule : Rule) : Type 0 where
  pub number : ℕ
  pub number_is : module_of (names_of players) rule ≡ Some number
  pub player : Player
  pub player_is : slice_get players number ≡ Some player
  pub plays : player.plays ≡ faillock_plays

-- a line `requisite pam_faillock.so preauth ..`
pub record IsGate (players : List Player) (rule : Rule) : Type 0 where
  pub control : rule.control ≡ requisite
  pub faillock : IsFaillock players rule
  pub preauth : task_among rule.args ≡ task_word (codes "preauth")

-- AUTH_ERR, after that line alone was run; and all is as it left it
pub record Denied (after : State) (w : Walked (PassState State)) : Type 0 where
  pub code_is : code_of w ≡ AuthErr
  pub ran : w.state.visits ≡ visit 1 AuthErr ∷ []
  pub state_is : w.state.state ≡ after

-- whatever lines follow, whatever other modules there are, and whatever is cached: USER is set, and
-- the user is locked
abbrev pub LockedIsDenied : Type 0
LockedIsDenied =
    (players : List Player) (flags : ℕ) (kept : KeptAnswers) (rule : Rule) (rest : Stack)
    (s : State) (user : List ℕ) → IsGate players rule →
    s.room.transaction.items.user ≡ Some user →
    IsLocked (settings_of rule.args) (sight_of (scene_in s)) user →
    Denied (answers_by players Authenticate flags rule 1 s).state
    (pass_after kinds.Keep kept (answers_by players Authenticate flags) (line rule rest) [] s)
