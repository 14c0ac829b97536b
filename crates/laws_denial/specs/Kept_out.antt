-- That a user who is locked is kept out by each stack that has no way round pam_faillock
-- (pam.conf(5), pam_faillock(8); the statement is this project's own).
use Rattle.std.specs.Prelude.{◌≡◌, ◌≢◌, ◌⊎◌, ◌+◌, ℕ, false, IsTrue, List, [], None, Some, codes, slice_get}
use Rattle.pam_base.specs.declared.call.Func.TheVariants.{Authenticate}
use Rattle.pam_base.specs.declared.code.Code.{Code}
use Rattle.pam_base.specs.declared.code.Code.TheVariants.{AuthErr, Success}
use Rattle.control_words.specs.declared.nodes.Rule.{Rule}
use Rattle.control_words.specs.Stack.{Stack, none, line, sub, lines_in}
use Rattle.handler_chain.specs.FlatLines.{module_of}
use Rattle.handler_chain.specs.declared.pass_kind.PassKind.TheVariants as kinds
use Rattle.handler_chain.specs.Pass.{is_incomplete, pass_after}
use Rattle.handler_chain.specs.Route.{KeptAnswers}
use Rattle.handler_chain.specs.Walk.{code_of}
use Rattle.stack_ways.specs.MayEnd.{CodesOf}
use Rattle.pam_room.specs.Module.{Player, sight_of}
use Rattle.pam_room.specs.State.{PlainWorld, State, scene_in, state_of}
use Rattle.dispatch_core.specs.Lines.{answers_by, names_of}
use Rattle.mod_tally.specs.Settings.{PlainSettings, settings_of, task_among, task_word}
use Rattle.pam_handle.specs.Handle.{PlainHandle}
use Rattle.pam_handle.specs.StackCalls.{stack_call}
use Rattle.laws_lock.specs.Denied.{IsFaillock}
use Rattle.laws_lock.specs.Locked.{IsLocked}
use Rattle.laws_denial.specs.Leaving.{LeavesUserAndFiles}
use Rattle.laws_denial.specs.NoWay.{NoWay}

-- this holds for the rule and the number of each line of a stack; the first line has the number `at`
abbrev pub EachLine : (ℕ → Rule → Type 0) → ℕ → Stack → Type 0
EachLine Holds at none = Unit {0}
EachLine Holds at (line rule rest) = Holds at rule × EachLine Holds (at + 1) rest
EachLine Holds at (sub inner rest) =
    EachLine Holds at inner × EachLine Holds (at + lines_in inner) rest

-- `preauth`, `authfail` or `authsucc` is the last of these three among the arguments
abbrev pub HasMode : List (List ℕ) → Type 0
HasMode args = (task_among args ≡ task_word (codes "preauth"))
    ⊎ ((task_among args ≡ task_word (codes "authfail"))
    ⊎ (task_among args ≡ task_word (codes "authsucc")))

-- a line of pam_faillock with these settings; AUTH_ERR is one of its possible codes
pub record IsGate (players : List Player) (set : PlainSettings) (possible : CodesOf) (place : ℕ)
    (rule : Rule) : Type 0 where
  pub faillock : IsFaillock players rule
  pub mode : HasMode rule.args
  pub settings : settings_of rule.args ≡ set
  pub may : IsTrue (possible place AuthErr)

-- a line of another module, or of none; what it returns is one of its possible codes, unless it
-- leaves the run incomplete
pub record IsOther (players : List Player) (flags : ℕ) (possible : CodesOf) (place : ℕ)
    (rule : Rule) : Type 0 where
  pub leaves : (number : ℕ) (player : Player) → module_of (names_of players) rule ≡ Some number
      → slice_get players number ≡ Some player → LeavesUserAndFiles player.plays
  pub may : (s : State)
      → is_incomplete (answers_by players Authenticate flags rule place s).answer ≡ false
      → IsTrue (possible place (answers_by players Authenticate flags rule place s).answer)

abbrev pub Suits : List Player → ℕ → PlainSettings → CodesOf → ℕ → Rule → Type 0
Suits players flags set possible place rule =
    IsGate players set possible place rule ⊎ IsOther players flags possible place rule

-- All lines of pam_faillock in the stack have the same settings, and its ways are listed for the
-- case that each of these lines returns AUTH_ERR, and each other line any code that it may return.
-- If none of these ways ends with SUCCESS, no authentication of a user who is locked returns
-- SUCCESS, whatever is cached; unless it is resumed.
abbrev pub LockedIsKeptOut : Type 0
LockedIsKeptOut =
    (players : List Player) (flags : ℕ) (set : PlainSettings) (possible : CodesOf) (stack : Stack)
    (kept : KeptAnswers) (s : State) (user : List ℕ) →
    EachLine (Suits players flags set possible) 1 stack → NoWay possible stack →
    s.room.transaction.items.user ≡ Some user → IsLocked set (sight_of (scene_in s)) user →
    code_of (pass_after kinds.Keep kept (answers_by players Authenticate flags) stack [] s)
    ≢ Success

-- Nor does pam_authenticate(3), unless it is resumed.
abbrev pub LockedIsNotAuthenticated : Type 0
LockedIsNotAuthenticated =
    (players : List Player) (number : Code → ℕ → ℕ) (flags : ℕ) (set : PlainSettings)
    (possible : CodesOf) (h : PlainHandle) (w : PlainWorld) (user : List ℕ) → h.pending ≡ None →
    EachLine (Suits players flags set possible) 1 h.stacks.auth → NoWay possible h.stacks.auth →
    h.room.transaction.items.user ≡ Some user →
    IsLocked set (sight_of (scene_in (state_of h.room w))) user →
    (stack_call players number Authenticate flags h w).code ≢ Success
