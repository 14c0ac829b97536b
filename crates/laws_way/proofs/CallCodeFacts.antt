-- The six calls return the code of their pass.
use Rattle.std.proofs.Common.{◌≡◌, ◌≢◌, false, List, Option, Some, None, refl}
use Rattle.pam_base.specs.declared.call.Func.{Func}
use Rattle.pam_base.specs.declared.call.Func.TheVariants.{Authenticate, SetCred, AcctMgmt, OpenSession, CloseSession, ChAuthTok}
use Rattle.pam_base.specs.declared.code.Code.{Code}
use Rattle.pam_base.specs.declared.code.Code.TheVariants as codes
use Rattle.control_words.specs.Stack.{Stack}
use Rattle.handler_chain.specs.Opinion.{opening}
use Rattle.handler_chain.specs.Pass.{Answering, pass_after}
use Rattle.handler_chain.specs.Route.{KeptAnswers}
use Rattle.handler_chain.specs.Walk.{code_of}
use Rattle.service_load.specs.Stacks.{Stacks}
use Rattle.dispatch_core.specs.Calls.{Asking, Held, answers_held, following, goes}
use Rattle.dispatch_core.specs.Pending.{past_in}
use Rattle.stack_ways.specs.declared.way.Way.{Way}
use Rattle.stack_ways.specs.MayEnd.{CodesOf}
use Rattle.stack_ways.specs.Ways.{WaysOf}
use Rattle.stack_ways.proofs.Realised.{ends_as_it_may, granted_by}
use Rattle.laws_way.specs.Calls.{AuthenticationCaches, CallsGrantedBy, GrantedOf, SessionCaches, pass_of}
use Rattle.laws_way.proofs.Again.{cached_granted_by}
use Rattle.laws_way.proofs.Alongside.{loose_granted_by}
use Rattle.laws_way.proofs.TokenChangeFacts.{succeeded}

-- a run by cached codes, if there are any
followed : (State : Type 0) (cached : Option KeptAnswers) (possible counts : CodesOf) (stack : Stack) (ways : List Way) (answering : Answering State)
    (past : List Code) (s : State) → WaysOf possible counts stack 1 opening ways →
    let w = pass_after (following cached) (answers_held cached) answering stack past s in
    code_of w ≡ codes.Success →
    GrantedOf possible counts stack ways (answers_held cached) w.state.visits (following cached)
followed State None possible counts stack ways answering past s all = λ succeeds are.
    loose_granted_by State possible counts stack ways (answers_held None) answering past s all are succeeds
followed State (Some kept) possible counts stack ways answering past s all = λ succeeds first end cached.
    cached_granted_by State possible counts stack ways first end (answers_held (Some kept)) answering past s all cached succeeds

pub calls_granted_by : (State : Type 0) → CallsGrantedBy State
calls_granted_by State possible counts ways asking stacks Authenticate h s none all = λ succeeds are.
    granted_by State possible counts stacks.auth ways (answers_held h.authenticated) (asking Authenticate false) (past_in h.pending) s all are succeeds
calls_granted_by State possible counts ways asking stacks SetCred h s none all = λ succeeds.
    followed State h.authenticated possible counts stacks.auth ways (asking SetCred false) (past_in h.pending) s all succeeds
calls_granted_by State possible counts ways asking stacks AcctMgmt h s none all = λ succeeds are.
    granted_by State possible counts stacks.account ways (answers_held None) (asking AcctMgmt false) (past_in h.pending) s all are succeeds
calls_granted_by State possible counts ways asking stacks OpenSession h s none all = λ succeeds are.
    granted_by State possible counts stacks.session ways (answers_held h.opened) (asking OpenSession false) (past_in h.pending) s all are succeeds
calls_granted_by State possible counts ways asking stacks CloseSession h s none all = λ succeeds.
    followed State h.opened possible counts stacks.session ways (asking CloseSession false) (past_in h.pending) s all succeeds
calls_granted_by State possible counts ways asking stacks ChAuthTok h s none all = λ succeeds are.
    granted_by State possible counts stacks.password ways (answers_held None) (asking ChAuthTok false) (past_in h.pending) s all are
    (succeeded asking stacks h s none succeeds)

pub authentication_caches : (State : Type 0) → AuthenticationCaches State
authentication_caches State possible asking stacks h s = λ runs are. record {
  kept = _;
  is = refl;
  by = record {
    ends = ends_as_it_may State possible (answers_held h.authenticated) (asking Authenticate false) stacks.auth (past_in h.pending) s runs are;
    kept_is = refl;
  };
}

pub session_caches : (State : Type 0) → SessionCaches State
session_caches State possible asking stacks h s = λ runs are. record {
  kept = _;
  is = refl;
  by = record {
    ends = ends_as_it_may State possible (answers_held h.opened) (asking OpenSession false) stacks.session (past_in h.pending) s runs are;
    kept_is = refl;
  };
}

-- a call that is one pass returns its code, and leaves what it left
pub one_pass_is : {State : Type 0} (asking : Asking State) (stacks : Stacks) (func : Func) (h : Held) (s : State) → func ≢ ChAuthTok
    → ((goes asking stacks func h s).code ≡ code_of (pass_of asking stacks func h s))
    × ((goes asking stacks func h s).state ≡ (pass_of asking stacks func h s).state.state)
one_pass_is asking stacks Authenticate h s other = (refl, refl)
one_pass_is asking stacks SetCred h s other = (refl, refl)
one_pass_is asking stacks AcctMgmt h s other = (refl, refl)
one_pass_is asking stacks OpenSession h s other = (refl, refl)
one_pass_is asking stacks CloseSession h s other = (refl, refl)
one_pass_is asking stacks ChAuthTok h s other = absurd (other refl)
