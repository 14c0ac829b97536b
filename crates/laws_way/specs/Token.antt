-- Both passes of pam_chauthtok(3) (the statements are this project's own).
use Rattle.std.specs.Prelude.{◌≡◌, ◌≢◌, true, false, List, [], None, Some}
use Rattle.pam_base.specs.declared.call.Func.TheVariants.{ChAuthTok}
use Rattle.pam_base.specs.declared.code.Code.{Code}
use Rattle.pam_base.specs.declared.code.Code.TheVariants as codes
use Rattle.control_words.specs.Stack.{Stack}
use Rattle.handler_chain.specs.declared.pass_kind.PassKind.TheVariants as kinds
use Rattle.handler_chain.specs.Opinion.{opening}
use Rattle.handler_chain.specs.Pass.{PassState, Visit, kept_in, pass_after}
use Rattle.handler_chain.specs.Route.{KeptAnswers}
use Rattle.handler_chain.specs.Walk.{Walked, code_of}
use Rattle.service_load.specs.Stacks.{Stacks}
use Rattle.dispatch_core.specs.Calls.{Asking, Held, Went, answers_held, goes}
use Rattle.dispatch_core.specs.Pending.{first_in, past_in}
use Rattle.stack_ways.specs.declared.way.Way.{Way}
use Rattle.stack_ways.specs.Laws.{ArePossible, granted}
use Rattle.stack_ways.specs.MayEnd.{CodesOf}
use Rattle.stack_ways.specs.Ways.{IsListed, WaysOf}
use Rattle.laws_way.specs.Cached.{CachedBy, GoesAgain}

module _ {State : Type 0} (asking : Asking State) (stacks : Stacks) where
  -- the first pass, with PAM_PRELIM_CHECK, after the codes of its earlier calls
  abbrev pub check_run : List Code → State → Walked (PassState State)
  check_run past s =
      pass_after kinds.Keep (answers_held None) (asking ChAuthTok false) stacks.password past s

  -- the second pass, with PAM_UPDATE_AUTHTOK, by the codes that the first one cached
  abbrev pub update_run : KeptAnswers → List Code → State → Walked (PassState State)
  update_run kept past s =
      pass_after kinds.Follow kept (asking ChAuthTok true) stacks.password past s

-- both passes return SUCCESS: in the first all lines of one of the ways that are listed with it
-- said yes, and in the second they are run again and say yes again
pub record ByBothPasses {State : Type 0} (counts : CodesOf) (stack : Stack) (ways : List Way)
    (first second : Walked (PassState State)) : Type 0 where
  pub checked : code_of first ≡ codes.Success
  pub said_yes : IsListed counts ways first.state.visits granted
  pub updated : code_of second ≡ codes.Success
  pub goes_again : GoesAgain counts stack ways (kept_in first.state.visits) first.state.visits
      second.state.visits granted

-- a change of token that begins, or is resumed in its first pass
abbrev pub TokenChangedByWays : Type 0 → Type 0
TokenChangedByWays State = (possible counts : CodesOf) (ways : List Way) (asking : Asking State)
    (stacks : Stacks) (h : Held) (s : State) → first_in h.pending ≡ None →
    WaysOf possible counts stacks.password 1 opening ways →
    let first = check_run asking stacks (past_in h.pending) s in
    ArePossible possible first.state.visits →
    (goes asking stacks ChAuthTok h s).code ≡ codes.Success →
    ByBothPasses counts stacks.password ways first
    (update_run asking stacks (kept_in first.state.visits) [] first.state.state)

-- a call returns the code of a run, and all is as that run left it
pub record IsAllOf {State : Type 0} (w : Walked (PassState State)) (call : Went State) : Type
    0 where
  pub code_is : call.code ≡ code_of w
  pub state_is : call.state ≡ w.state.state

-- if the first pass doesn't return SUCCESS, it is all: the second isn't run
abbrev pub FailedCheckEnds : Type 0 → Type 0
FailedCheckEnds State = (asking : Asking State) (stacks : Stacks) (h : Held) (s : State) →
    first_in h.pending ≡ None →
    let first = check_run asking stacks (past_in h.pending) s in
    code_of first ≢ codes.Success → IsAllOf first (goes asking stacks ChAuthTok h s)

-- if it is left incomplete in its second pass, the codes that it keeps are those of its first one,
-- which returned SUCCESS
abbrev pub LeftInUpdate : Type 0 → Type 0
LeftInUpdate State = (possible : CodesOf) (asking : Asking State) (stacks : Stacks) (h : Held)
    (s : State) (kept : KeptAnswers) → first_in h.pending ≡ None →
    let first = check_run asking stacks (past_in h.pending) s in
    ArePossible possible first.state.visits →
    first_in (goes asking stacks ChAuthTok h s).held.pending ≡ Some kept →
    CachedBy possible stacks.password first.state.visits granted kept

-- a change of token that is resumed in its second pass, by the codes of such a first one
abbrev pub TokenUpdatedByWays : Type 0 → Type 0
TokenUpdatedByWays State = (possible counts : CodesOf) (ways : List Way) (asking : Asking State)
    (stacks : Stacks) (ran : List Visit) (kept : KeptAnswers) (h : Held) (s : State) →
    first_in h.pending ≡ Some kept → WaysOf possible counts stacks.password 1 opening ways →
    CachedBy possible stacks.password ran granted kept →
    (goes asking stacks ChAuthTok h s).code ≡ codes.Success →
    GoesAgain counts stacks.password ways kept ran
    (update_run asking stacks kept (past_in h.pending) s).state.visits granted
