-- The calls that run a stack, replayed by the lines that they recorded.
use Rattle.std.proofs.Common.{◌≡◌, Bool, true, false, List, [], ◌++◌, Option, Some, None, refl, sym, ◌∙◌, ap, append_assoc, append-nil}
use Rattle.pam_base.specs.declared.code.Code.{Code}
use Rattle.pam_base.specs.declared.code.Code.TheVariants as codes
use Rattle.pam_base.specs.declared.call.Func.{Func}
use Rattle.pam_base.specs.declared.call.Func.TheVariants.{Authenticate, SetCred, AcctMgmt, OpenSession, CloseSession, ChAuthTok}
use Rattle.control_words.specs.Stack.{Stack}
use Rattle.handler_chain.specs.declared.pass_kind.PassKind.{PassKind}
use Rattle.handler_chain.specs.declared.pass_kind.PassKind.TheVariants as kinds
use Rattle.handler_chain.specs.Opinion.{opening as opens}
use Rattle.handler_chain.specs.Walk.{Walked}
use Rattle.handler_chain.specs.Route.{KeptAnswers}
use Rattle.handler_chain.specs.Pass.{PassState, pass_state, pass_after}
use Rattle.service_load.specs.Stacks.{Stacks}
use Rattle.pass_replay.specs.dispatch_core.specs.Calls.{answers_held, following, Asking, Held, held, Passed, passed_by, Went, went, passes}
use Rattle.pass_replay.specs.dispatch_core.specs.Calls.{update, after_check, check, change, call_after}
use Rattle.pass_replay.specs.dispatch_core.specs.Pending.{pending_after, past_in, first_in}
use Rattle.handler_chain.specs.Retell.{RecordedLine, Telling, telling}
use Rattle.pass_replay.specs.Replay.{as_told}
use Rattle.session_audit.specs.Laws.{Trails, Retold, CallsAreRetold}
use Rattle.handler_chain.proofs.ReplayedWalkFacts.{WalkTold, walk_told}

module _ (State : Type 0) (trail : State → List RecordedLine) (asking : Asking State) (tells : Trails State trail asking) (stacks : Stacks) where
  -- what a pass and a call add to the trace, and that they are the same when replayed by these
  -- lines
  record PassTold (p : Passed State) (before : List RecordedLine) (again : List RecordedLine → Passed Telling) : Type 0 where
    news : List RecordedLine
    adds : trail p.state ≡ before ++ news
    same : (more : List RecordedLine) → again (news ++ more) ≡ record { code = p.code; kept = p.kept; paused = p.paused; state = telling more }

  record CallTold (w : Went State) (before : List RecordedLine) (again : List RecordedLine → Went Telling) : Type 0 where
    news : List RecordedLine
    adds : trail w.state ≡ before ++ news
    same : (more : List RecordedLine) → again (news ++ more) ≡ went w.code w.held (telling more)

  pass_told : (func : Func) (second : Bool) (kind : PassKind) (kept : Option KeptAnswers) (stack : Stack) (past : List Code) (s : State)
      → PassTold (passes asking stacks func second kind kept stack past s) (trail s)
      (λ left. passes as_told stacks func second kind kept stack past (telling left))
  pass_told func second kind kept stack past s =
      let w : Walked (PassState State) = pass_after kind (answers_held kept) (asking func second) stack past s in
      let told : WalkTold State trail w (trail s) (λ left. pass_after kind (answers_held kept) (as_told func second) stack past (telling left)) =
      walk_told State trail kind (answers_held kept) (asking func second) (tells func second) stack 0 1 opens opens (pass_state past [] s) in
      record { news = told.news; adds = told.adds; same = λ more. ap (passed_by kind kept) (told.same more) }

  -- a call that is one pass
  by_pass : (p : Passed State) (before : List RecordedLine) (again : List RecordedLine → Passed Telling) (h : Option KeptAnswers → Option (List Code) → Held)
      → PassTold p before again → CallTold (went p.code (h p.kept p.paused) p.state) before
      (λ left. went (again left).code (h (again left).kept (again left).paused) (again left).state)
  by_pass p before again h told = record {
    news = told.news;
    adds = told.adds;
    same = λ more. ap (λ (x : Passed Telling). went x.code (h x.kept x.paused) x.state) (told.same more);
  }

  -- what follows a pass
  after_pass : (p : Passed State) (before : List RecordedLine) (again : List RecordedLine → Passed Telling) (w : Went State) (f : Passed Telling → Went Telling)
      → PassTold p before again → CallTold w (trail p.state) (λ left. f (record { code = p.code; kept = p.kept; paused = p.paused; state = telling left }))
      → CallTold w before (λ left. f (again left))
  after_pass p before again w f one two = record {
    news = one.news ++ two.news;
    adds = two.adds ∙ ap (λ (xs : List RecordedLine). xs ++ two.news) one.adds ∙ append_assoc before one.news two.news;
    same = λ more. ap (λ (xs : List RecordedLine). f (again xs)) (append_assoc one.news two.news more) ∙ ap f (one.same (two.news ++ more)) ∙ two.same more;
  }

  update_told : (first : Option KeptAnswers) (past : List Code) (h : Held) (s : State)
      → CallTold (update asking stacks first past h s) (trail s) (λ left. update as_told stacks first past h (telling left))
  update_told first past h s = by_pass _ (trail s) _ (λ kept paused. held h.authenticated h.opened (pending_after ChAuthTok first paused))
      (pass_told ChAuthTok true kinds.Follow first stacks.password past s)

  nothing_told : (code : Code) (h : Held) (s : State) → CallTold (went code h s) (trail s) (λ left. went code h (telling left))
  nothing_told code h s = record { news = []; adds = sym (append-nil (trail s)); same = λ more. refl }

  after_told : (code : Code) (kept : Option KeptAnswers) (h : Held) (s : State)
      → CallTold (after_check asking stacks code kept h s) (trail s) (λ left. after_check as_told stacks code kept h (telling left))
  after_told codes.Success kept h s = update_told kept [] h s
  after_told code kept h s = nothing_told code h s

  check_told : (past : List Code) (h : Held) (s : State) → CallTold (check asking stacks past h s) (trail s)
      (λ left. check as_told stacks past h (telling left))
  check_told past h s =
      let p : Passed State = passes asking stacks ChAuthTok false kinds.Keep None stacks.password past s in
      after_pass p (trail s) _ _ (λ (x : Passed Telling). after_check as_told stacks x.code x.kept
      (held h.authenticated h.opened (pending_after ChAuthTok None x.paused)) x.state)
      (pass_told ChAuthTok false kinds.Keep None stacks.password past s)
      (after_told p.code p.kept (held h.authenticated h.opened (pending_after ChAuthTok None p.paused)) p.state)

  change_told : (past : List Code) (first : Option KeptAnswers) (h : Held) (s : State)
      → CallTold (change asking stacks past first h s) (trail s) (λ left. change as_told stacks past first h (telling left))
  change_told past None h s = check_told past h s
  change_told past (Some first) h s = update_told (Some first) past h s

  call_told : (func : Func) (past : List Code) (first : Option KeptAnswers) (h : Held) (s : State)
      → CallTold (call_after asking stacks func past first h s) (trail s) (λ left. call_after as_told stacks func past first h (telling left))
  call_told Authenticate past first h s = by_pass _ (trail s) _ (λ kept paused. held kept h.opened (pending_after Authenticate None paused))
      (pass_told Authenticate false kinds.Keep h.authenticated stacks.auth past s)
  call_told SetCred past first h s = by_pass _ (trail s) _ (λ kept paused. held kept h.opened (pending_after SetCred None paused))
      (pass_told SetCred false (following h.authenticated) h.authenticated stacks.auth past s)
  call_told AcctMgmt past first h s = by_pass _ (trail s) _ (λ kept paused. held h.authenticated h.opened (pending_after AcctMgmt None paused))
      (pass_told AcctMgmt false kinds.Keep None stacks.account past s)
  call_told OpenSession past first h s = by_pass _ (trail s) _ (λ kept paused. held h.authenticated kept (pending_after OpenSession None paused))
      (pass_told OpenSession false kinds.Keep h.opened stacks.session past s)
  call_told CloseSession past first h s = by_pass _ (trail s) _ (λ kept paused. held h.authenticated kept (pending_after CloseSession None paused))
      (pass_told CloseSession false (following h.opened) h.opened stacks.session past s)
  call_told ChAuthTok past first h s = change_told past first h s

  retold : (func : Func) (h : Held) (s : State) → Retold trail asking stacks func h s
  retold func h s = let told = call_told func (past_in h.pending) (first_in h.pending) h s in record { news = told.news; adds = told.adds; same = told.same }

pub calls_are_retold : (State : Type 0) → CallsAreRetold State
calls_are_retold State trail asking tells stacks func h s = retold State trail asking tells stacks func h s
