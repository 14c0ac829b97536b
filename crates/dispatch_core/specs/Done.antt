-- What a line of a pass, and a whole pass, give and leave, each in one record.
use Rattle.std.specs.Prelude.{◌≡◌, ◌≤◌, ◌+◌, ◌*◌, ◌⊎◌, ℕ, IsNone, IsTrue, IfOk, OnErr, OnOk, List, [], length, Option, is_none, Result}
use Rattle.pam_base.specs.declared.code.Code.{Code}
use Rattle.pam_base.specs.declared.fault.NoMemory.{NoMemory}
use Rattle.control_words.specs.Stack.{Stack}
use Rattle.handler_chain.specs.Chain.{ChainView}
use Rattle.handler_chain.specs.FlatLines.{rule_at}
use Rattle.pam_room.specs.State.{State}
use Rattle.handler_chain.specs.declared.pass_kind.PassKind.{PassKind}
use Rattle.handler_chain.specs.Pass.{PassState, Visit, decides, pass_after, pass_state, serving}
use Rattle.handler_chain.specs.Retell.{Telling}
use Rattle.handler_chain.specs.Route.{KeptAnswers}
use Rattle.handler_chain.specs.Walk.{ServedAs, Walked}
use Rattle.dispatch_core.specs.declared.request.PassRequest.{PassRequest}
use Rattle.dispatch_core.specs.declared.pass_memory.PassMemory.{PassMemory}
use Rattle.dispatch_core.specs.Around.{Around, all_tell}
use Rattle.dispatch_core.specs.Failing.{BreaksAt, IsAtWork, IsUntouched, StopsAt, Takes}
use Rattle.dispatch_core.specs.Lines.{answers_by}
use Rattle.dispatch_core.specs.Passes.{answer_in, taken_with, visits_with}
use Rattle.dispatch_core.specs.Paths.{HasPaths}
use Rattle.dispatch_core.specs.Trail.{ByTrail}

-- the code of a line, or an earlier call's code in its place, is what a walk gives there, whatever
-- the kind of pass
abbrev pub GivesLine : PassRequest → Stack → ℕ → Option Code → List Code → List Code → Around
    → Type 0
GivesLine request stack i answer past left a =
    (kind : PassKind) (kept : KeptAnswers) (visits : List Visit) → ServedAs
    (serving kind kept (answers_by a.players request.func request.flags) (rule_at stack i) (i + 1)
    (pass_state past visits a.old.state))
    (answer_in answer) (decides kind kept (i + 1) (answer_in answer)) (is_none answer)
    (pass_state left (visits_with visits (i + 1) answer) a.new.state)

-- The line of an index has returned: what is taken of the codes of earlier calls and of the memory of the pass, and
-- what holds if its module ran out of memory.
pub record LineDone (request : PassRequest) (stack : Stack) (i : ℕ)
    (result : Result (Option Code) NoMemory) (memory left : PassMemory) (a : Around) : Type 0 where
  pub broken : IsTrue (all_tell a.old) → OnErr result (BreaksAt a.players request.func
      request.flags stack i a.old.state a.new.state)
  pub at_work : OnErr result ((memory.answers.past ≡ [])
      × IsAtWork a.players (rule_at stack i) a.old.state.room.transaction
      a.new.state.room.transaction)
  pub taken : IfOk result (λ answer. left.answers.taken ≡ taken_with memory.answers.taken answer)
  pub none : IfOk result (λ answer. IsNone answer → left.answers.past ≡ [])
  pub took : IfOk result (λ answer. Takes a.players request.func request.flags stack
      (all_tell a.old) i answer memory.answers.past left.answers.past a.old.state a.new.state)
  pub answers : OnOk result (length memory.answers.taken + length memory.answers.past
      + memory.answers.room
      ≤ length left.answers.taken + length left.answers.past + left.answers.room)
  pub paths : HasPaths stack (i + 1) left.paths

-- A pass has returned: what it gave and left is what a walk over its stack gives and leaves, in which lines return what
-- their modules' definitions say, and also in one by the lines that were run.
pub record PassDone {Answer : Type 0} (request : PassRequest) (stack : Stack) (kept : KeptAnswers)
    (past : List Code) (As : (State : Type 0) → Walked (PassState State) → Answer → State → Type 0)
    (result : Result Answer NoMemory) (a : Around) : Type 0 where
  pub told : IsTrue (all_tell a.old) → IfOk result (λ answer. As State
      (pass_after request.kind kept (answers_by a.players request.func request.flags) stack past
      a.old.state)
      answer a.new.state)
  pub by_trail : IfOk result (λ answer. ByTrail request.kind kept stack past
      a.old.state.room.transaction.trail a.new.state.room.transaction.trail
      (λ w told. As Telling w answer told))

-- The chain of a pass is as it was; it was looked at at most four times for each line that was run and for each code of
-- an earlier call.
pub record ChainStays {Answer : Type 0} (chain later : ChainView) (past : List Code)
    (result : Result Answer NoMemory) (a : Around) : Type 0 where
  pub nodes : later.nodes ≡ chain.nodes
  pub names : later.names ≡ chain.names
  pub looks : OnOk result (later.looks + 4 * length a.old.state.room.transaction.trail
      ≤ chain.looks + 4 * (length a.new.state.room.transaction.trail + length past))

-- where a pass stopped in which a module ran out of memory
abbrev pub PassStops : PassRequest → Stack → KeptAnswers → List Code → Around → Type 0
PassStops request stack kept past a = StopsAt a.players request.func request.flags stack
    request.kind kept past (all_tell a.old) a.old.state a.new.state

-- an allocation of the pass itself failed, and nothing happened; or it stopped there
abbrev pub IsUntouchedOrStops : PassRequest → Stack → KeptAnswers → List Code → Around → Type 0
IsUntouchedOrStops request stack kept past a = IsUntouched a
    ⊎ PassStops request stack kept past a
