-- The calls by the lines that they added to the trace.
use Rattle.std.proofs.Common.{◌≡◌, ◌≢◌, Bool, true, false, true≢false, if◌then◌else◌, List, [], ◌∷◌, ◌++◌, Option, Some, None, refl, sym}
use Rattle.std.proofs.Common.{◌∙◌, ap, subst, append-nil}
use Rattle.pam_base.specs.declared.call.Func.{Func}
use Rattle.pam_base.specs.declared.call.Func.TheVariants.{Authenticate, ChAuthTok, CloseSession, OpenSession, SetCred}
use Rattle.pam_base.specs.declared.code.Code.{Code}
use Rattle.pam_base.specs.declared.code.Code.TheVariants as codes
use Rattle.control_words.specs.Stack.{Stack}
use Rattle.pam_room.specs.declared.visits.Visit.{Visit as Visited}
use Rattle.handler_chain.specs.declared.pass_kind.PassKind.TheVariants as kinds
use Rattle.handler_chain.specs.declared.opinion.Opinion.{Opinion}
use Rattle.handler_chain.specs.Opinion.{verdict}
use Rattle.handler_chain.specs.Pass.{PassState, Visit, answers_of, kept_in, pass_after}
use Rattle.handler_chain.specs.Retell.{Telling, replaying, telling}
use Rattle.handler_chain.specs.Route.{KeptAnswers}
use Rattle.handler_chain.specs.Walk.{Walked, code_of}
use Rattle.service_load.specs.Stacks.{Stacks}
use Rattle.dispatch_core.specs.Calls.{Held, Went, answers_held, following, goes, went}
use Rattle.dispatch_core.specs.Failing.{visits_in}
use Rattle.dispatch_core.specs.Pending.{Pending, first_in, past_in, pending_after}
use Rattle.dispatch_core.specs.Trail.{seen_in}
use Rattle.pam_handle.specs.Passes.{kind_of}
use Rattle.pam_handle.specs.Trail.{as_traced}
use Rattle.stack_ways.specs.declared.way.Way.{Way}
use Rattle.stack_ways.specs.Laws.{ArePossible}
use Rattle.stack_ways.specs.MayEnd.{CodesOf}
use Rattle.stack_ways.proofs.SuccessStateFacts.{by_code}
use Rattle.laws_way.specs.Cached.{CachedBy, GoesAgain}
use Rattle.laws_way.specs.Calls.{AreCached, GrantedOf, cached_for, pass_of, stack_of_call}
use Rattle.laws_way.specs.Token.{ByBothPasses, check_run, update_run}
use Rattle.laws_way.specs.Traced.{TracedAgain, TracedAuthenticationCaches, TracedCache, TracedCallsGrantedBy, TracedChangesGrantedBy}
use Rattle.laws_way.specs.Traced.{TracedClosingGrantedBy, TracedCredentialsGrantedBy, TracedSessionCaches}
use Rattle.laws_way.proofs.CallCodeFacts.{authentication_caches, calls_granted_by, one_pass_is, session_caches}
use Rattle.laws_way.proofs.TokenChangeFacts.{is_update, succeeded, token_changed}
use Rattle.laws_way.proofs.TracedRunFacts.{lines_of, lines_of-seen, runs_told}

pub first_possible : (possible : CodesOf) (before more : List Visit) → ArePossible possible (before ++ more) → ArePossible possible before
first_possible possible [] more are = tt
first_possible possible (v ∷ before) more are = (are.0, first_possible possible before more are.1)

-- what the trace holds
pub told_is : (more : List Visited) → lines_of (seen_in more ++ []) ≡ visits_in more
told_is more = ap lines_of (append-nil (seen_in more)) ∙ lines_of-seen more

-- no recorded line is left
pub all_run : (visits : List Visit) (t : Telling) (ran : List Visit) → visits ++ lines_of t.left ≡ ran → t ≡ telling [] → visits ≡ ran
all_run visits t ran whole none = sym (append-nil visits) ∙ sym (ap (λ (u : Telling). visits ++ lines_of u.left) none) ∙ whole

-- a call that begins, and is one pass
module _ (stacks : Stacks) (func : Func) (h : Held) (more : List Visited) (begins : h.pending ≡ None) where
  abbrev traced : Telling
  traced = telling (seen_in more ++ [])

  abbrev ran : Walked (PassState Telling)
  ran = pass_of as_traced stacks func h traced

  abbrev run_after : List Code → Walked (PassState Telling)
  run_after past =
      pass_after (kind_of func (cached_for func h)) (answers_held (cached_for func h)) replaying (stack_of_call func stacks) past traced

  -- once its pass has ended, and took all of the trace, it ran the lines of the trace
  ran_is : ran.stopped ≡ false → ran.state.state ≡ telling [] → ran.state.visits ≡ visits_in more
  ran_is ends left =
      let fresh : ran ≡ run_after [] = ap (λ (pending : Option Pending). run_after (past_in pending)) begins in
      let whole : ran.state.visits ++ lines_of ran.state.state.left ≡ visits_in more =
      ap (λ (x : Walked (PassState Telling)). x.state.visits ++ lines_of x.state.state.left) fresh
      ∙ runs_told (kind_of func (cached_for func h)) (answers_held (cached_for func h)) (stack_of_call func stacks) (seen_in more ++ []) traced refl
      (sym (ap (λ (x : Walked (PassState Telling)). x.stopped) fresh) ∙ ends)
      ∙ told_is more in
      all_run ran.state.visits ran.state.state (visits_in more) whole left

  one_pass_ran : func ≢ ChAuthTok → (code : Code) (new_held : Held) → goes as_traced stacks func h traced ≡ went code new_held (telling []) → ran.stopped ≡ false
      → ran.state.visits ≡ visits_in more
  one_pass_ran other code new_held leads ends =
      ran_is ends (sym (one_pass_is as_traced stacks func h traced other).1 ∙ ap (λ (g : Went Telling). g.state) leads)

  code_ran : func ≢ ChAuthTok → (code : Code) (new_held : Held) → goes as_traced stacks func h traced ≡ went code new_held (telling []) → code_of ran ≡ code
  code_ran other code new_held leads =
      sym (one_pass_is as_traced stacks func h traced other).0 ∙ ap (λ (g : Went Telling). g.code) leads

pub traced_calls : TracedCallsGrantedBy
traced_calls possible counts ways stacks func h new_held before later other begins all call =
    let w : Walked (PassState Telling) = ran stacks func h call.more begins in
    let leads = call.leads [] in
    let visits_are : w.state.visits ≡ visits_in call.more =
    one_pass_ran stacks func h call.more begins other codes.Success new_held leads
    (by_code w.stopped w.opinion (code_ran stacks func h call.more begins other codes.Success new_held leads)).0 in
    subst (λ (vs : List Visit). GrantedOf possible counts (stack_of_call func stacks) ways (answers_held (cached_for func h)) vs
    (kind_of func (cached_for func h))) visits_are
    (calls_granted_by Telling possible counts ways as_traced stacks func h (traced stacks func h call.more begins) (ap first_in begins) all
    (ap (λ (g : Went Telling). g.code) leads))

-- ---- what is cached

ended_none : (func : Func) (first : Option KeptAnswers) (stopped : Bool) (past : List Code)
    → pending_after func first (if stopped then Some past else None) ≡ None → stopped ≡ false
ended_none func first true past is = absurd cc
ended_none func first false past is = refl

if_ended : (stopped : Bool) (code : Code) → stopped ≡ false → (if stopped then codes.Incomplete else code) ≡ code
if_ended true code is = absurd (true≢false is)
if_ended false code is = refl

pub traced_authentication : TracedAuthenticationCaches
traced_authentication possible stacks h new_held before later code begins ended call are =
    let t : Telling = traced stacks Authenticate h call.more begins in
    let w : Walked (PassState Telling) = ran stacks Authenticate h call.more begins in
    let leads = call.leads [] in
    let ends : w.stopped ≡ false =
    ended_none Authenticate None w.stopped (answers_of w.state.visits) (ap (λ (g : Went Telling). g.held.pending) leads ∙ ended) in
    let visits_are : w.state.visits ≡ visits_in call.more =
    one_pass_ran stacks Authenticate h call.more begins (λ same. cc) code new_held leads ends in
    record {
      end = w.opinion;
      code_is = sym (code_ran stacks Authenticate h call.more begins (λ same. cc) code new_held leads) ∙ if_ended w.stopped (verdict w.opinion) ends;
      are_cached = subst (λ (cached : Option KeptAnswers). AreCached possible stacks.auth (visits_in call.more) w.opinion cached)
          (ap (λ (g : Went Telling). g.held.authenticated) leads)
          (subst (λ (vs : List Visit). AreCached possible stacks.auth vs w.opinion (goes as_traced stacks Authenticate h t).held.authenticated) visits_are
          (authentication_caches Telling possible as_traced stacks h t ends (subst (ArePossible possible) (sym visits_are) are)));
    }

pub traced_session : TracedSessionCaches
traced_session possible stacks h new_held before later code begins ended call are =
    let t : Telling = traced stacks OpenSession h call.more begins in
    let w : Walked (PassState Telling) = ran stacks OpenSession h call.more begins in
    let leads = call.leads [] in
    let ends : w.stopped ≡ false =
    ended_none OpenSession None w.stopped (answers_of w.state.visits) (ap (λ (g : Went Telling). g.held.pending) leads ∙ ended) in
    let visits_are : w.state.visits ≡ visits_in call.more =
    one_pass_ran stacks OpenSession h call.more begins (λ same. cc) code new_held leads ends in
    record {
      end = w.opinion;
      code_is = sym (code_ran stacks OpenSession h call.more begins (λ same. cc) code new_held leads) ∙ if_ended w.stopped (verdict w.opinion) ends;
      are_cached = subst (λ (cached : Option KeptAnswers). AreCached possible stacks.session (visits_in call.more) w.opinion cached)
          (ap (λ (g : Went Telling). g.held.opened) leads)
          (subst (λ (vs : List Visit). AreCached possible stacks.session vs w.opinion (goes as_traced stacks OpenSession h t).held.opened) visits_are
          (session_caches Telling possible as_traced stacks h t ends (subst (ArePossible possible) (sym visits_are) are)));
    }

-- ---- what uses it

by_cached : (possible counts : CodesOf) (ways : List Way) (stack : Stack) (first later : List Visit) (code : Code) (cached used : Option KeptAnswers)
    → TracedCache possible stack first code cached → used ≡ cached → GrantedOf possible counts stack ways (answers_held used) later (following used)
    → TracedAgain counts stack ways first later code
by_cached possible counts ways stack first later code cached used cache same granted_of =
    let kept : KeptAnswers = cache.are_cached.kept in
    let by : CachedBy possible stack first cache.end kept = cache.are_cached.by in
    let goes_by : (ran : List Visit) (end : Opinion) → CachedBy possible stack ran end kept → GoesAgain counts stack ways kept ran later end =
    subst (λ (held : Option KeptAnswers). GrantedOf possible counts stack ways (answers_held held) later (following held))
    (same ∙ cache.are_cached.is) granted_of in
    record {
      end = cache.end;
      code_is = cache.code_is;
      goes_again = subst (λ (k : KeptAnswers). GoesAgain counts stack ways k first later cache.end) by.kept_is (goes_by first cache.end by);
    }

pub traced_credentials : TracedCredentialsGrantedBy
traced_credentials possible counts ways stacks h new_held h' new_held' before after before' after' code all begins ended same begins' first are later =
    by_cached possible counts ways stacks.auth (visits_in first.more) (visits_in later.more) code new_held.authenticated h'.authenticated
    (traced_authentication possible stacks h new_held before after code begins ended first are) same
    (traced_calls possible counts ways stacks SetCred h' new_held' before' after' (λ is. cc) begins' all later)

pub traced_closing : TracedClosingGrantedBy
traced_closing possible counts ways stacks h new_held h' new_held' before after before' after' code all begins ended same begins' first are later =
    by_cached possible counts ways stacks.session (visits_in first.more) (visits_in later.more) code new_held.opened h'.opened
    (traced_session possible stacks h new_held before after code begins ended first are) same
    (traced_calls possible counts ways stacks CloseSession h' new_held' before' after' (λ is. cc) begins' all later)

-- ---- a change of token

pub traced_changes : TracedChangesGrantedBy
traced_changes possible counts ways stacks h new_held before later begins all call are =
    let t : Telling = telling (seen_in call.more ++ []) in
    let first : Walked (PassState Telling) = check_run as_traced stacks (past_in h.pending) t in
    let begun : Walked (PassState Telling) = check_run as_traced stacks [] t in
    let fresh : first ≡ begun = ap (λ (pending : Option Pending). check_run as_traced stacks (past_in pending) t) begins in
    let kept : KeptAnswers = kept_in first.state.visits in
    let second : Walked (PassState Telling) = update_run as_traced stacks kept [] first.state.state in
    let leads = call.leads [] in
    let none = ap first_in begins in
    let succeeds : (goes as_traced stacks ChAuthTok h t).code ≡ codes.Success = ap (λ (g : Went Telling). g.code) leads in
    let checked : code_of first ≡ codes.Success = succeeded as_traced stacks h t none succeeds in
    let updates = is_update as_traced stacks h t none checked in
    let updated : code_of second ≡ codes.Success = sym (ap (λ (g : Went Telling). g.code) updates) ∙ succeeds in
    let left_is : second.state.state ≡ telling [] = sym (ap (λ (g : Went Telling). g.state) updates) ∙ ap (λ (g : Went Telling). g.state) leads in
    let began : code_of begun ≡ codes.Success = ap (λ (x : Walked (PassState Telling)). code_of x) (sym fresh) ∙ checked in
    let one : first.state.visits ++ lines_of first.state.state.left ≡ visits_in call.more =
    ap (λ (x : Walked (PassState Telling)). x.state.visits ++ lines_of x.state.state.left) fresh
    ∙ runs_told kinds.Keep (answers_held None) stacks.password (seen_in call.more ++ []) t refl (by_code begun.stopped begun.opinion began).0
    ∙ told_is call.more in
    let two : second.state.visits ≡ lines_of first.state.state.left =
    all_run second.state.visits second.state.state (lines_of first.state.state.left)
    (runs_told kinds.Follow kept stacks.password first.state.state.left first.state.state refl (by_code second.stopped second.opinion updated).0) left_is in
    let split : visits_in call.more ≡ first.state.visits ++ second.state.visits =
    sym one ∙ ap (λ (vs : List Visit). first.state.visits ++ vs) (sym two) in
    let both : ByBothPasses counts stacks.password ways first second =
    token_changed Telling possible counts ways as_traced stacks h t none all
    (first_possible possible first.state.visits second.state.visits (subst (ArePossible possible) split are)) succeeds in
    record { first = first.state.visits; second = second.state.visits; ran_is = split; said_yes = both.said_yes; goes_again = both.goes_again }
