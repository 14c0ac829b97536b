-- The six calls that run a stack (pam_authenticate(3), pam_setcred(3), pam_acct_mgmt(3),
-- pam_open_session(3), pam_close_session(3), pam_chauthtok(3); the statements are this project's
-- own).
use Rattle.std.specs.Prelude.{◌≡◌, false, List, None, Option, Some}
use Rattle.pam_base.specs.declared.call.Func.{Func}
use Rattle.pam_base.specs.declared.call.Func.TheVariants.{Authenticate, OpenSession}
use Rattle.pam_base.specs.declared.code.Code.TheVariants as codes
use Rattle.control_words.specs.Stack.{Stack}
use Rattle.handler_chain.specs.declared.opinion.Opinion.{Opinion}
use Rattle.handler_chain.specs.declared.pass_kind.PassKind.{PassKind}
use Rattle.handler_chain.specs.declared.pass_kind.PassKind.TheVariants as kinds
use Rattle.handler_chain.specs.Opinion.{opening}
use Rattle.handler_chain.specs.Pass.{PassState, Visit, pass_after}
use Rattle.handler_chain.specs.Route.{KeptAnswers}
use Rattle.handler_chain.specs.Walk.{Walked}
use Rattle.service_load.specs.Stacks.{Stacks}
use Rattle.dispatch_core.specs.Calls.{Asking, Held, answers_held, goes}
use Rattle.dispatch_core.specs.Pending.{first_in, past_in}
use Rattle.pam_handle.specs.Passes.{cached_of, kind_of, stack_at, stack_type}
use Rattle.stack_ways.specs.declared.way.Way.{Way}
use Rattle.stack_ways.specs.Laws.{ArePossible, granted}
use Rattle.stack_ways.specs.MayEnd.{CodesOf}
use Rattle.stack_ways.specs.Ways.{IsListed, WaysOf}
use Rattle.laws_way.specs.Cached.{CachedBy, GoesAgain}
use Rattle.laws_way.specs.Loose.{IsListedUndenied}

-- the cached codes that belong to a call, if there are any
abbrev pub cached_for : Func → Held → Option KeptAnswers
cached_for func h = cached_of func h.authenticated h.opened None

-- the stack of a call
abbrev pub stack_of_call : Func → Stacks → Stack
stack_of_call func stacks = stack_at stacks (stack_type func)

-- the pass of a call, in a change of token the first, which begins or is resumed
abbrev pub pass_of : {State : Type 0} → Asking State → Stacks → Func → Held → State
    → Walked (PassState State)
pass_of asking stacks func h s =
    pass_after (kind_of func (cached_for func h)) (answers_held (cached_for func h))
    (asking func false) (stack_of_call func stacks) (past_in h.pending) s

-- What the SUCCESS of a run of this kind says. In a first run each of whose lines returned a
-- possible code, all lines of one of the ways that are listed with it said yes; so they did in a run
-- without cached codes, or only jumps decided. In one by cached codes, whatever its lines return,
-- the lines of the way by which the run ended that cached them say yes again.
abbrev pub GrantedOf : CodesOf → CodesOf → Stack → List Way → KeptAnswers → List Visit → PassKind
    → Type 0
GrantedOf possible counts stack ways kept ran kinds.Keep =
    ArePossible possible ran → IsListed counts ways ran granted
GrantedOf possible counts stack ways kept ran kinds.Loose =
    ArePossible possible ran → IsListedUndenied counts ways ran
GrantedOf possible counts stack ways kept ran kinds.Follow = (first : List Visit) (end : Opinion)
    → CachedBy possible stack first end kept → GoesAgain counts stack ways kept first ran end

-- Each of the six calls returns SUCCESS only if its pass, in a change of token its first, goes so;
-- a change of token that is resumed in its second pass has a law of its own.
abbrev pub CallsGrantedBy : Type 0 → Type 0
CallsGrantedBy State = (possible counts : CodesOf) (ways : List Way) (asking : Asking State)
    (stacks : Stacks) (func : Func) (h : Held) (s : State) → first_in h.pending ≡ None →
    WaysOf possible counts (stack_of_call func stacks) 1 opening ways →
    let w = pass_of asking stacks func h s in
    (goes asking stacks func h s).code ≡ codes.Success →
    GrantedOf possible counts (stack_of_call func stacks) ways (answers_held (cached_for func h))
    w.state.visits (kind_of func (cached_for func h))

-- codes are cached, and a first run cached them that ended, each of whose lines returned a possible
-- code
pub record AreCached (possible : CodesOf) (stack : Stack) (ran : List Visit) (end : Opinion)
    (cached : Option KeptAnswers) : Type 0 where
  pub kept : KeptAnswers
  pub is : cached ≡ Some kept
  pub by : CachedBy possible stack ran end kept

-- after an authentication that has ended these are its own; setcred uses them
abbrev pub AuthenticationCaches : Type 0 → Type 0
AuthenticationCaches State = (possible : CodesOf) (asking : Asking State) (stacks : Stacks)
    (h : Held) (s : State) →
    let w = pass_of asking stacks Authenticate h s in
    w.stopped ≡ false → ArePossible possible w.state.visits →
    AreCached possible stacks.auth w.state.visits w.opinion
    (goes asking stacks Authenticate h s).held.authenticated

-- and after an opened session; close_session uses them
abbrev pub SessionCaches : Type 0 → Type 0
SessionCaches State = (possible : CodesOf) (asking : Asking State) (stacks : Stacks) (h : Held)
    (s : State) →
    let w = pass_of asking stacks OpenSession h s in
    w.stopped ≡ false → ArePossible possible w.state.visits →
    AreCached possible stacks.session w.state.visits w.opinion
    (goes asking stacks OpenSession h s).held.opened
