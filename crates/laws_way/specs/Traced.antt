-- The six calls by the lines that they add to the trace, with real objects, too (the statements are
-- this project's own).
use Rattle.std.specs.Prelude.{◌≡◌, ◌≢◌, List, ◌++◌, None, Option}
use Rattle.pam_base.specs.declared.call.Func.{Func}
use Rattle.pam_base.specs.declared.call.Func.TheVariants.{Authenticate, ChAuthTok, CloseSession, OpenSession, SetCred}
use Rattle.pam_base.specs.declared.code.Code.{Code}
use Rattle.pam_base.specs.declared.code.Code.TheVariants as codes
use Rattle.control_words.specs.Stack.{Stack}
use Rattle.handler_chain.specs.declared.opinion.Opinion.{Opinion}
use Rattle.handler_chain.specs.Opinion.{opening, verdict}
use Rattle.handler_chain.specs.Pass.{Visit, kept_in}
use Rattle.handler_chain.specs.Route.{KeptAnswers}
use Rattle.pam_room.specs.declared.visits.Visit.{Visit as Visited}
use Rattle.service_load.specs.Stacks.{Stacks}
use Rattle.dispatch_core.specs.Calls.{Held, answers_held, goes}
use Rattle.dispatch_core.specs.Failing.{visits_in}
use Rattle.pam_handle.specs.Passes.{kind_of}
use Rattle.pam_handle.specs.Trail.{CallsByTrail, as_traced}
use Rattle.stack_ways.specs.declared.way.Way.{Way}
use Rattle.stack_ways.specs.Laws.{ArePossible, granted}
use Rattle.stack_ways.specs.MayEnd.{CodesOf}
use Rattle.stack_ways.specs.Ways.{IsListed, WaysOf}
use Rattle.laws_way.specs.Cached.{GoesAgain}
use Rattle.laws_way.specs.Calls.{AreCached, GrantedOf, cached_for, stack_of_call}

-- A call that begins and returns SUCCESS, by what each of the six calls ensures of the lines that
-- it added to the trace: it takes a listed way.
abbrev pub TracedCallsGrantedBy : Type 0
TracedCallsGrantedBy = (possible counts : CodesOf) (ways : List Way) (stacks : Stacks)
    (func : Func) (h new_held : Held) (before after : List Visited) → func ≢ ChAuthTok →
    h.pending ≡ None → WaysOf possible counts (stack_of_call func stacks) 1 opening ways →
    (call : CallsByTrail (λ s. goes as_traced stacks func h s) before after codes.Success new_held) →
    GrantedOf possible counts (stack_of_call func stacks) ways (answers_held (cached_for func h))
    (visits_in call.more) (kind_of func (cached_for func h))

-- the lines are those of the two passes of a change of token: in the first all lines of one of the
-- ways that are listed with SUCCESS said yes, and in the second they are run again and say yes
-- again
pub record TracedChange (counts : CodesOf) (stack : Stack) (ways : List Way) (ran : List Visit)
    : Type 0 where
  pub first : List Visit
  pub second : List Visit
  pub ran_is : ran ≡ first ++ second
  pub said_yes : IsListed counts ways first granted
  pub goes_again : GoesAgain counts stack ways (kept_in first) first second granted

-- a change of token that begins and returns SUCCESS goes so
abbrev pub TracedChangesGrantedBy : Type 0
TracedChangesGrantedBy = (possible counts : CodesOf) (ways : List Way) (stacks : Stacks)
    (h new_held : Held) (before after : List Visited) → h.pending ≡ None →
    WaysOf possible counts stacks.password 1 opening ways →
    (call : CallsByTrail (λ s. goes as_traced stacks ChAuthTok h s) before after codes.Success
    new_held) → ArePossible possible (visits_in call.more) →
    TracedChange counts stacks.password ways (visits_in call.more)

-- a call has ended with this code, and the codes of these lines are cached after it, by a first run
-- that ended in the state with this code
pub record TracedCache (possible : CodesOf) (stack : Stack) (ran : List Visit) (code : Code)
    (cached : Option KeptAnswers) : Type 0 where
  pub end : Opinion
  pub code_is : code ≡ verdict end
  pub are_cached : AreCached possible stack ran end cached

-- so it is after an authentication that begins and ends: setcred uses the lines that it added to
-- the trace
abbrev pub TracedAuthenticationCaches : Type 0
TracedAuthenticationCaches = (possible : CodesOf) (stacks : Stacks) (h new_held : Held)
    (before after : List Visited) (code : Code) → h.pending ≡ None → new_held.pending ≡ None →
    (call : CallsByTrail (λ s. goes as_traced stacks Authenticate h s) before after code new_held) →
    ArePossible possible (visits_in call.more) →
    TracedCache possible stacks.auth (visits_in call.more) code new_held.authenticated

-- and after an opened session: close_session uses those
abbrev pub TracedSessionCaches : Type 0
TracedSessionCaches = (possible : CodesOf) (stacks : Stacks) (h new_held : Held)
    (before after : List Visited) (code : Code) → h.pending ≡ None → new_held.pending ≡ None →
    (call : CallsByTrail (λ s. goes as_traced stacks OpenSession h s) before after code new_held) →
    ArePossible possible (visits_in call.more) →
    TracedCache possible stacks.session (visits_in call.more) code new_held.opened

-- the lines of the way by which the first of two calls ended, with this code, are run again in the
-- second, and say yes again
pub record TracedAgain (counts : CodesOf) (stack : Stack) (ways : List Way)
    (first later : List Visit) (code : Code) : Type 0 where
  pub end : Opinion
  pub code_is : code ≡ verdict end
  pub goes_again : GoesAgain counts stack ways (kept_in first) first later end

-- Setcred after an authentication, whose codes are still cached: both begin, the first has ended,
-- with any code, and the second returns SUCCESS. So it goes, whatever its lines return.
abbrev pub TracedCredentialsGrantedBy : Type 0
TracedCredentialsGrantedBy = (possible counts : CodesOf) (ways : List Way) (stacks : Stacks)
    (h new_held h' new_held' : Held) (before after before' after' : List Visited) (code : Code) →
    WaysOf possible counts stacks.auth 1 opening ways → h.pending ≡ None →
    new_held.pending ≡ None → h'.authenticated ≡ new_held.authenticated → h'.pending ≡ None →
    (first : CallsByTrail (λ s. goes as_traced stacks Authenticate h s) before after code new_held) →
    ArePossible possible (visits_in first.more) →
    (later : CallsByTrail (λ s. goes as_traced stacks SetCred h' s) before' after' codes.Success
    new_held') →
    TracedAgain counts stacks.auth ways (visits_in first.more) (visits_in later.more) code

-- and close_session after an opened session
abbrev pub TracedClosingGrantedBy : Type 0
TracedClosingGrantedBy = (possible counts : CodesOf) (ways : List Way) (stacks : Stacks)
    (h new_held h' new_held' : Held) (before after before' after' : List Visited) (code : Code) →
    WaysOf possible counts stacks.session 1 opening ways → h.pending ≡ None →
    new_held.pending ≡ None → h'.opened ≡ new_held.opened → h'.pending ≡ None →
    (first : CallsByTrail (λ s. goes as_traced stacks OpenSession h s) before after code new_held) →
    ArePossible possible (visits_in first.more) →
    (later : CallsByTrail (λ s. goes as_traced stacks CloseSession h' s) before' after'
    codes.Success new_held') →
    TracedAgain counts stacks.session ways (visits_in first.more) (visits_in later.more) code
