-- What holds for a transaction after its calls, with real objects and out of memory too (this
-- project's own).
use Rattle.std.specs.Prelude.{◌≡◌, ℕ, ◌≤◌, Bool, true, false, List, Option, None, Some, IfSome, IsTrue}
use Rattle.pam_base.specs.declared.code.Code.{Code}
use Rattle.pam_base.specs.declared.code.Code.TheVariants as codes
use Rattle.pam_base.specs.declared.call.Func.{Func}
use Rattle.pam_base.specs.declared.call.Func.TheVariants.{Authenticate, SetCred, OpenSession, CloseSession, ChAuthTok}
use Rattle.data_cleanup.specs.Cleanup.{Notes}
use Rattle.item_store.specs.Items.{ItemTexts}
use Rattle.dispatch_core.specs.fail_delay.specs.Wait.{wait_of}
use Rattle.dispatch_core.specs.pam_outside.specs.Time.{NapState}
use Rattle.dispatch_core.specs.AnyWorld.{GoesSoundly}
use Rattle.dispatch_core.specs.pam_room.specs.State.{PlainProcess}
use Rattle.dispatch_core.specs.handler_chain.specs.Route.{KeptAnswers}
use Rattle.pam_handle.specs.declared.wait.Wait.{Wait}
use Rattle.dispatch_core.specs.Pending.{Pending}
use Rattle.pam_handle.specs.Handle.{PlainHandle}
use Rattle.pam_handle.specs.Call.{clears_tokens, nap_after, waited_by}

-- what a stack call keeps: the stacks, the names and the delay function; what is to report only grows, and so do the
-- data and the cleanup log
pub record RunsSoundly (note : Notes) (modules : ℕ) (old new : PlainHandle)
    (before after : PlainProcess) : Type 0 where
  pub stacks : new.stacks ≡ old.stacks
  pub names : new.names ≡ old.names
  pub delay_on : new.delay_on ≡ old.delay_on
  pub goes : GoesSoundly note modules (record old.room.transaction { delay = 0 })
      new.room.transaction before after

-- ---- what a call keeps that isn't its own

-- the cached codes of the last authentication belong to authenticate and setcred
abbrev pub LeavesAuthenticated : Func → Option KeptAnswers → Option KeptAnswers → Type 0
LeavesAuthenticated Authenticate old new = Unit {0}
LeavesAuthenticated SetCred old new = Unit {0}
LeavesAuthenticated func old new = new ≡ old

-- the cached codes of the last opened session belong to open_session and close_session
abbrev pub LeavesOpened : Func → Option KeptAnswers → Option KeptAnswers → Type 0
LeavesOpened OpenSession old new = Unit {0}
LeavesOpened CloseSession old new = Unit {0}
LeavesOpened func old new = new ≡ old

-- only authenticate waits
abbrev pub LeavesWait : Func → PlainHandle → PlainHandle → Type 0
LeavesWait Authenticate old new = Unit {0}
LeavesWait func old new = new.waited ≡ old.waited

pub record LeavesOthers (func : Func) (old new : PlainHandle) : Type 0 where
  pub authenticated : LeavesAuthenticated func old.authenticated new.authenticated
  pub opened : LeavesOpened func old.opened new.opened
  pub waited : LeavesWait func old new

-- ---- what holds after a code

abbrev pub AreUnset : ItemTexts → Type 0
AreUnset items = (items.auth_tok ≡ None) × (items.old_auth_tok ≡ None)

-- authenticate and chauthtok begin their passes with both tokens unset; if they are resumed, lines of this call may
-- have set them
abbrev pub BeginsUnset : Func → Option (List Code) → ItemTexts → Type 0
BeginsUnset func paused items = clears_tokens func ≡ true → paused ≡ None → AreUnset items

-- authenticate and chauthtok clear the tokens when they end
abbrev pub ClearsTokens : Func → ItemTexts → Type 0
ClearsTokens Authenticate items = AreUnset items
ClearsTokens ChAuthTok items = AreUnset items
ClearsTokens func items = Unit {0}

-- A call that has ended leaves nothing pending, and no requested delay. Only after INCOMPLETE may it be pending itself;
-- then the requested delay is kept, and nothing was waited.
abbrev pub LeavesPending : Func → Code → PlainHandle → PlainHandle → Option Pending → Type 0
LeavesPending func code old new None = (new.room.transaction.delay ≡ 0)
    × ClearsTokens func new.room.transaction.items
LeavesPending func code old new (Some p) =
    (p.func ≡ func) × (code ≡ codes.Incomplete)
    × (old.room.transaction.delay ≤ new.room.transaction.delay) × (new.waited ≡ old.waited)

-- Of the wait after an authentication only two things aren't known: which delay was requested, and
-- what the application's delay function returned for it; if that function is off, the requested
-- delay was waited. The reported wait is what was slept, once, if at least the sleep is modelled
-- (`tells`, `before`, `after`).
pub record WaitsFor (code : Code) (delay_on : Bool) (old new : Option Wait) (tells : Bool)
    (before after : NapState) : Type 0 where
  pub asked : ℕ
  pub wait : Option ℕ
  pub asked_bound : asked ≤ 90000000
  pub wait_bound : IfSome wait (λ n. n ≤ 90000000)
  pub off : (number : Code → ℕ → ℕ) → delay_on ≡ false → wait ≡ wait_of false number code asked
  pub told : new ≡ waited_by code asked wait old
  pub slept : IsTrue tells → after ≡ nap_after wait before

abbrev pub Waits : Code → PlainHandle → PlainHandle → Bool → NapState → NapState → Type 0
Waits code old new tells before after =
    WaitsFor code old.delay_on old.waited new.waited tells before after

-- the wait after a call that has ended with a code, or that hasn't ended
abbrev pub WaitsOnlyAtEnd : Option Code → Bool → Option Wait → Option Wait → Bool → NapState
    → NapState → Type 0
WaitsOnlyAtEnd None delay_on old new tells before after = new ≡ old
WaitsOnlyAtEnd (Some code) delay_on old new tells before after =
    WaitsFor code delay_on old new tells before after

-- ---- out of memory

-- the cached codes that a call leaves if it runs out of memory: none of its own if it caches codes; the others stay
abbrev pub authenticated_failed : Func → Option KeptAnswers → Option KeptAnswers
authenticated_failed Authenticate kept = None
authenticated_failed func kept = kept

abbrev pub opened_failed : Func → Option KeptAnswers → Option KeptAnswers
opened_failed OpenSession kept = None
opened_failed func kept = kept

-- after a stack call that ran out of memory
pub record FailsAs (func : Func) (old new : PlainHandle) : Type 0 where
  pub pending : new.pending ≡ None
  pub request : new.room.transaction.delay ≡ 0
  pub authenticated : new.authenticated ≡ authenticated_failed func old.authenticated
  pub opened : new.opened ≡ opened_failed func old.opened
  pub tokens : ClearsTokens func new.room.transaction.items
  pub waited : new.waited ≡ old.waited
  pub stacks : new.stacks ≡ old.stacks
  pub names : new.names ≡ old.names
  pub delay_on : new.delay_on ≡ old.delay_on
