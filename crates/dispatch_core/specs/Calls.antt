-- The passes of the six calls that run a stack, whatever the objects: which stacks they run, which
-- codes they cache and use, how they are left incomplete and resumed (the Module Writers' Guide;
-- INCOMPLETE with a resumption is this project's own).
use Rattle.std.specs.Prelude.{Bool, true, false, List, [], Option, Some, None}
use Rattle.pam_base.specs.declared.code.Code.{Code}
use Rattle.pam_base.specs.declared.code.Code.TheVariants as codes
use Rattle.pam_base.specs.declared.call.Func.{Func}
use Rattle.pam_base.specs.declared.call.Func.TheVariants.{Authenticate, SetCred, AcctMgmt, OpenSession, CloseSession, ChAuthTok}
use Rattle.control_words.specs.Stack.{Stack}
use Rattle.handler_chain.specs.declared.pass_kind.PassKind.{PassKind}
use Rattle.handler_chain.specs.declared.pass_kind.PassKind.TheVariants as kinds
use Rattle.handler_chain.specs.Walk.{Walked, code_of}
use Rattle.handler_chain.specs.Route.{KeptAnswers}
use Rattle.handler_chain.specs.Pass.{PassState, Visit, Answering, kept_in, pass_after}
use Rattle.service_load.specs.Stacks.{Stacks}
use Rattle.service_load.specs.declared.rule_type.RuleType.{RuleType}
use Rattle.service_load.specs.declared.rule_type.RuleType.TheVariants.{Auth, Account, Password, Session}
use Rattle.dispatch_core.specs.Passes.{paused_after}
use Rattle.dispatch_core.specs.Pending.{Pending, pending_after, past_in, first_in}

-- the cached code of a line; None if nothing is held
abbrev pub answers_held : Option KeptAnswers → KeptAnswers
answers_held None place = None
answers_held (Some kept) place = kept place

-- what is cached after a pass: its own codes, what was cached before, or nothing
abbrev pub cached_after : PassKind → List Visit → Option KeptAnswers → Option KeptAnswers
cached_after kinds.Keep visits kept = Some (kept_in visits)
cached_after kinds.Follow visits kept = kept
cached_after kinds.Loose visits kept = None

-- a pass by cached codes, if any are held
abbrev pub following : Option KeptAnswers → PassKind
following None = kinds.Loose
following (Some kept) = kinds.Follow

-- ---- the stack, the cached codes and the kind of a pass, by the call

-- the type of the stack that a call runs
abbrev pub stack_type : Func → RuleType
stack_type Authenticate = Auth
stack_type SetCred = Auth
stack_type AcctMgmt = Account
stack_type OpenSession = Session
stack_type CloseSession = Session
stack_type ChAuthTok = Password

-- the stack of a type
abbrev pub stack_at : Stacks → RuleType → Stack
stack_at stacks Auth = stacks.auth
stack_at stacks Account = stacks.account
stack_at stacks Password = stacks.password
stack_at stacks Session = stacks.session

-- the cached codes that belong to a call: those of the last authentication, those of the last opened session, or none
-- of them
abbrev pub cached_of : {A : Type 0} → Func → A → A → A → A
cached_of Authenticate authenticated opened others = authenticated
cached_of SetCred authenticated opened others = authenticated
cached_of OpenSession authenticated opened others = opened
cached_of CloseSession authenticated opened others = opened
cached_of func authenticated opened others = others

-- what is cached, with other codes in their place
abbrev pub authenticated_with : {A : Type 0} → Func → A → A → A
authenticated_with Authenticate cached old = cached
authenticated_with SetCred cached old = cached
authenticated_with func cached old = old

abbrev pub opened_with : {A : Type 0} → Func → A → A → A
opened_with OpenSession cached old = cached
opened_with CloseSession cached old = cached
opened_with func cached old = old

-- whether the first pass of a call caches its codes, or uses cached ones
abbrev pub kind_of : Func → Option KeptAnswers → PassKind
kind_of SetCred cached = following cached
kind_of CloseSession cached = following cached
kind_of func cached = kinds.Keep

-- what a transaction holds between its calls: what the last authenticate and the last open_session cached, and the
-- pending call
pub record Held : Type 0 where
  pub authenticated : Option KeptAnswers
  pub opened : Option KeptAnswers
  pub pending : Option Pending

abbrev pub held : Option KeptAnswers → Option KeptAnswers → Option Pending → Held
held authenticated opened pending = record {
  authenticated = authenticated;
  opened = opened;
  pending = pending;
}

-- the cached codes and the stack of a call's first pass
abbrev pub first_kept : Func → Held → Option KeptAnswers
first_kept func h = cached_of func h.authenticated h.opened None

abbrev pub first_stack : Func → Stacks → Stack
first_stack func stacks = stack_at stacks (stack_type func)

abbrev pub nothing_held : Held
nothing_held = held None None None

-- a pass's code, what is cached after it, the codes that it was given if it is incomplete, and the state after it
pub record Passed (State : Type 0) : Type 0 where
  pub code : Code
  pub kept : Option KeptAnswers
  pub paused : Option (List Code)
  pub state : State

abbrev pub passed_by : {State : Type 0} → PassKind → Option KeptAnswers → Walked (PassState State)
    → Passed State
passed_by kind kept w = record {
  code = code_of w;
  kept = cached_after kind w.state.visits kept;
  paused = paused_after w;
  state = w.state.state;
}

-- what is held after a pass of a call: what authenticate and open_session cache, and the calls that follow them leave,
-- and the call, if it is incomplete; `first` is what the first pass of chauthtok cached, if this is its second
abbrev pub held_past : {State : Type 0} → Func → Option KeptAnswers → Passed State → Held → Held
held_past func first p h =
    held (authenticated_with func p.kept h.authenticated) (opened_with func p.kept h.opened)
    (pending_after func first p.paused)

-- the result of a call
pub record Went (State : Type 0) : Type 0 where
  pub code : Code
  pub held : Held
  pub state : State

abbrev pub went : {State : Type 0} → Code → Held → State → Went State
went code h s = record { code = code; held = h; state = s }

-- what lines return for a function of the modules; in chauthtok, whether in its second pass
abbrev pub Asking : Type 0 → Type 0
Asking State = Func → Bool → Answering State

module _ {State : Type 0} (asking : Asking State) (stacks : Stacks) where
  abbrev pub passes : Func → Bool → PassKind → Option KeptAnswers → Stack → List Code → State
      → Passed State
  passes func second kind kept stack past s =
      passed_by kind kept (pass_after kind (answers_held kept) (asking func second) stack past s)

  -- the first pass of a call, after the codes of its earlier calls: over which stack, of which kind, and by which
  -- cached codes
  abbrev pub first_pass : Func → List Code → Held → State → Passed State
  first_pass func past h s =
      passes func false (kind_of func (first_kept func h)) (first_kept func h)
      (first_stack func stacks) past s

  -- the second pass of chauthtok, which follows the first
  abbrev pub second_pass : Option KeptAnswers → List Code → State → Passed State
  second_pass first past s = passes ChAuthTok true kinds.Follow first stacks.password past s

  -- a call that is one pass
  abbrev pub one_pass : Func → List Code → Held → State → Went State
  one_pass func past h s =
      let p = first_pass func past h s in
      went p.code (held_past func None p h) p.state

  abbrev pub update : Option KeptAnswers → List Code → Held → State → Went State
  update first past h s =
      let p = second_pass first past s in
      went p.code (held_past ChAuthTok first p h) p.state

  -- the second pass follows if the first returned SUCCESS
  abbrev pub after_check : Code → Option KeptAnswers → Held → State → Went State
  after_check codes.Success kept h s = update kept [] h s
  after_check code kept h s = went code h s

  abbrev pub check : List Code → Held → State → Went State
  check past h s =
      let p = first_pass ChAuthTok past h s in
      after_check p.code p.kept (held_past ChAuthTok None p h) p.state

  abbrev pub change : List Code → Option KeptAnswers → Held → State → Went State
  change past None h s = check past h s
  change past (Some first) h s = update (Some first) past h s

  -- after the codes of its earlier calls
  abbrev pub call_after : Func → List Code → Option KeptAnswers → Held → State → Went State
  call_after ChAuthTok past first h s = change past first h s
  call_after func past first h s = one_pass func past h s

  -- a call while no other one is pending
  abbrev pub goes : Func → Held → State → Went State
  goes func h s = call_after func (past_in h.pending) (first_in h.pending) h s
