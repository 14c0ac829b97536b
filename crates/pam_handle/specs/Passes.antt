-- The passes of the six calls that run a stack: the stack and the cached codes of each pass, and what all of them give
-- and leave, with modelled objects, by the trace, and out of memory (this project's own).
use Rattle.std.specs.Prelude.{◌≡◌, ◌⊎◌, ℕ, Bool, true, false, IsTrue, IfOk, OnErr, List, Option, None, is_some, Result}
use Rattle.pam_base.specs.declared.code.Code.{Code}
use Rattle.pam_base.specs.declared.code.Code.TheVariants as codes
use Rattle.pam_base.specs.declared.call.Func.{Func}
use Rattle.pam_base.specs.declared.call.Func.TheVariants.{ChAuthTok}
use Rattle.pam_base.specs.declared.fault.NoMemory.{NoMemory}
use Rattle.frozen_chain.specs.Kept.{Answers}
use Rattle.dispatch_core.specs.declared.request.PassRequest.{PassRequest}
pub use Rattle.dispatch_core.specs.Calls.{authenticated_with, cached_of, kind_of, opened_with, stack_at, stack_type}
use Rattle.dispatch_core.specs.Calls.{answers_held, call_after, held, passed_by, went}
use Rattle.dispatch_core.specs.Failing.{StopsAt}
use Rattle.dispatch_core.specs.Passes.{kept_failed}
use Rattle.dispatch_core.specs.Pending.{Pending, pending_after}
use Rattle.dispatch_core.specs.Trail.{ByTrail}
use Rattle.dispatch_core.specs.control_words.specs.Stack.{Stack}
use Rattle.dispatch_core.specs.handler_chain.specs.declared.pass_kind.PassKind.TheVariants as kinds
use Rattle.dispatch_core.specs.handler_chain.specs.Route.{KeptAnswers}
use Rattle.pam_handle.specs.AnyWorld.{LeavesAuthenticated, LeavesOpened, authenticated_failed, opened_failed}
use Rattle.pam_handle.specs.Around.{Around, all_tell, state_in}
use Rattle.pam_handle.specs.Pass.{PassesTo, kept_answers, passed}
use Rattle.pam_handle.specs.StackCalls.{asking_by, flags_seen, held_in}
use Rattle.pam_handle.specs.Stopping.{PassedNothing, StopsIn, passing}
use Rattle.pam_handle.specs.Trail.{CallsByTrail, as_traced}

-- ---- the passes of a call

-- the first pass of a call with these flags, and the second one of a change of token
abbrev pub first_request : Func → ℕ → Option KeptAnswers → PassRequest
first_request func flags cached = record {
  func = func;
  flags = flags_seen func false flags;
  kind = kind_of func cached;
}

abbrev pub second_request : ℕ → PassRequest
second_request flags = record {
  func = ChAuthTok;
  flags = flags_seen ChAuthTok true flags;
  kind = kinds.Follow;
}

-- a change of token is in its second pass if the codes of the first are there
abbrev pub is_second : {A : Type 0} → Func → Option A → Bool
is_second ChAuthTok first = is_some first
is_second func first = false

-- a second pass follows only in a change of token, after SUCCESS
abbrev pub is_followed : Func → Code → Bool
is_followed ChAuthTok codes.Success = true
is_followed func code = false

-- ---- one pass

-- the stack of a pass
abbrev pub stack_for : PassRequest → Around → Stack
stack_for request a = stack_at a.old.handle.stacks (stack_type request.func)

-- A pass has returned: its cached codes before and after it, the codes of its earlier calls, and those to resume with.
pub record PassGives (request : PassRequest) (cached later : Answers) (past : List Code)
    (pausing : Option (List Code)) (result : Result Code NoMemory) (a : Around) : Type 0 where
  pub told : IsTrue (all_tell a.old) → IfOk result (λ code. PassesTo
      (passed a.old.players request.func request.flags request.kind (kept_answers cached)
      (stack_for request a) past (state_in a.old)) code (kept_answers later) pausing
      (state_in a.new))
  pub by_trail : IfOk result (λ code. ByTrail request.kind (answers_held (kept_answers cached))
      (stack_for request a) past a.old.handle.room.transaction.trail
      a.new.handle.room.transaction.trail (λ w told. PassesTo
      (passed_by request.kind (kept_answers cached) w) code (kept_answers later) pausing told))
  pub put_off : IfOk result (λ code. IsTrue (is_some pausing) → code ≡ codes.Incomplete)
  pub kept : OnErr result (later ≡ kept_failed request.kind cached)
  pub paused : OnErr result (pausing ≡ None)
  pub stopped : OnErr result (PassedNothing (passing a)
      ⊎ StopsAt a.old.players request.func request.flags (stack_for request a) request.kind
      (answers_held (kept_answers cached)) past (all_tell a.old) (state_in a.old) (state_in a.new))

-- ---- all passes that are left of a call

-- They have returned. They began with the codes of a pending call, or with none; `later` is what the first pass of a
-- change of token has cached, if the second one is to be resumed.
pub record PassesGive (flags : ℕ) (begun : Pending) (later : Option KeptAnswers)
    (pausing : Option (List Code)) (result : Result Code NoMemory) (a : Around) : Type 0 where
  pub told : IsTrue (all_tell a.old) → IfOk result (λ code.
      call_after (asking_by a.old.players flags) a.old.handle.stacks begun.func begun.past
      begun.first (held_in a.old.handle) (state_in a.old)
      ≡ went code (held a.new.handle.authenticated a.new.handle.opened
      (pending_after begun.func later pausing)) (state_in a.new))
  pub by_trail : IfOk result (λ code. CallsByTrail
      (λ s. call_after as_traced a.old.handle.stacks begun.func begun.past begun.first
      (held_in a.old.handle) s)
      a.old.handle.room.transaction.trail a.new.handle.room.transaction.trail code
      (held a.new.handle.authenticated a.new.handle.opened
      (pending_after begun.func later pausing)))
  pub put_off : IfOk result (λ code. IsTrue (is_some pausing) → code ≡ codes.Incomplete)
  pub paused : OnErr result (pausing ≡ None)
  pub stopped : OnErr result (StopsIn begun.func flags begun.first begun.past (passing a))
  pub authenticated : OnErr result (a.new.handle.authenticated
      ≡ authenticated_failed begun.func a.old.handle.authenticated)
  pub opened : OnErr result (a.new.handle.opened
      ≡ opened_failed begun.func a.old.handle.opened)
  -- in every case
  pub leaves_authenticated : LeavesAuthenticated begun.func a.old.handle.authenticated
      a.new.handle.authenticated
  pub leaves_opened : LeavesOpened begun.func a.old.handle.opened a.new.handle.opened
  pub others : a.new.handle ≡ record a.old.handle {
    room = a.new.handle.room;
    authenticated = a.new.handle.authenticated;
    opened = a.new.handle.opened;
  }
