-- What each of the six calls that run a stack ensures, in one record (that a call may be incomplete, and what holds out
-- of memory, is this project's own).
use Rattle.std.specs.Prelude.{◌≡◌, ℕ, false, None, IsTrue, IfOk, OnErr, Result, Ok, length}
use Rattle.pam_base.specs.declared.code.Code.{Code}
use Rattle.pam_base.specs.declared.code.Code.TheVariants as codes
use Rattle.pam_base.specs.declared.call.Func.{Func}
use Rattle.pam_base.specs.declared.call.Func.TheVariants.{Authenticate}
use Rattle.pam_base.specs.declared.fault.NoMemory.{NoMemory}
use Rattle.dispatch_core.specs.Calls.{goes}
use Rattle.dispatch_core.specs.Pending.{is_other_pending}
use Rattle.dispatch_core.specs.pam_room.specs.Module.{notes_of}
use Rattle.pam_handle.specs.AnyWorld.{FailsAs, LeavesOthers, LeavesPending, RunsSoundly, Waits}
use Rattle.pam_handle.specs.Around.{Around, CallSeen, IsReady, all_tell}
use Rattle.pam_handle.specs.Call.{CallsAs}
use Rattle.pam_handle.specs.StackCalls.{held_in, is_refused_for_flags, stack_call}
use Rattle.pam_handle.specs.Stopping.{Stops}
use Rattle.pam_handle.specs.Trail.{CallsByTrail, as_traced}

-- only authenticate calls the application's delay function; the other five have the same result
-- whatever it returns
abbrev pub DelayGives : Func → ((Code → ℕ → ℕ) → Type 0) → (Code → ℕ → ℕ) → Type 0
DelayGives Authenticate gives number = gives number
DelayGives func gives number = Unit {0}

-- this holds if a call is neither refused for its flags nor aborted because another one is pending
abbrev pub IfRun : Func → ℕ → CallSeen → Type 0 → Type 0
IfRun func flags s Holds = is_refused_for_flags func flags ≡ false →
    is_other_pending s.handle.pending func ≡ false → Holds

-- A call of a function with these flags has returned: its result, and what it left.
pub record StackCalled (func : Func) (flags : ℕ) (result : Result Code NoMemory)
    (a : Around) : Type 0 where
  -- what was modelled before is modelled after
  pub tells : a.new.tells ≡ a.old.tells
  pub world_tells : a.new.world_tells ≡ a.old.world_tells
  -- its result if all is modelled
  pub told : (number : Code → ℕ → ℕ) → DelayGives func a.old.gives number →
      IsTrue (all_tell a.old) → IfOk result (λ code. CallsAs
      (stack_call a.old.players number func flags a.old.handle a.old.world)
      code a.new.handle a.new.world)
  -- which codes are returned at once, and what is pending after another code
  pub refused : IsTrue (is_refused_for_flags func flags) →
      (result ≡ Ok codes.SystemErr) × a.handle_is_kept × a.world_is_kept
  pub aborted : is_refused_for_flags func flags ≡ false →
      IsTrue (is_other_pending a.old.handle.pending func) →
      (result ≡ Ok codes.Abort) × a.handle_is_kept × a.world_is_kept
  pub left : IfRun func flags a.old (IfOk result (λ code.
      LeavesPending func code a.old.handle a.new.handle a.new.handle.pending))
  -- the code, and what is held between two calls, by the lines that it added to the trace
  pub by_trail : IfRun func flags a.old (IfOk result (λ code. CallsByTrail
      (λ s. goes as_traced a.old.handle.stacks func (held_in a.old.handle) s)
      a.old.handle.room.transaction.trail a.new.handle.room.transaction.trail code
      (held_in a.new.handle)))
  -- the wait after an authentication that has ended
  pub waited : func ≡ Authenticate → is_other_pending a.old.handle.pending func ≡ false →
      IfOk result (λ code. a.new.handle.pending ≡ None → Waits code a.old.handle a.new.handle
      a.old.nap_tells a.old.world.nap a.new.world.nap)
  -- out of memory
  pub stopped : OnErr result (Stops func flags a)
  pub err : OnErr result (FailsAs func a.old.handle a.new.handle)
  pub no_nap : OnErr result a.nap_is_kept
  -- in every case
  pub others : LeavesOthers func a.old.handle a.new.handle
  pub sound : RunsSoundly (notes_of a.old.players) (length a.old.players) a.old.handle a.new.handle
      a.old.world.process a.new.world.process
  pub ready : IsReady a.new
