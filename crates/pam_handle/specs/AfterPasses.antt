-- What a stack call has of its passes (this project's own).
use Rattle.std.specs.Prelude.{◌≡◌, ℕ}
use Rattle.pam_base.specs.declared.code.Code.{Code}
use Rattle.pam_base.specs.declared.call.Func.{Func}
use Rattle.dispatch_core.specs.Calls.{Went}
use Rattle.dispatch_core.specs.pam_room.specs.State.{State}
use Rattle.pam_handle.specs.Call.{Called}
use Rattle.pam_handle.specs.Handle.{PlainHandle}
use Rattle.pam_handle.specs.StackCalls.{finished, held_in}

-- the code that a call on a transaction returns, and what it leaves of what its passes left
pub record EndsAs (r : Went State) (h : PlainHandle) (c : Called) : Type 0 where
  pub code : c.code ≡ r.code
  pub held : held_in c.handle ≡ r.held
  pub stacks : c.handle.stacks ≡ h.stacks
  pub trail : c.handle.room.transaction.trail ≡ r.state.room.transaction.trail
  pub vault : c.world.vault ≡ r.state.world.vault
  pub process : c.world.process ≡ r.state.world.process

-- what is done after the passes of a call changes nothing of it
abbrev pub EndsLeaveIt : Type 0
EndsLeaveIt = (number : Code → ℕ → ℕ) (func : Func) (r : Went State) (h : PlainHandle) →
    EndsAs r h (finished number func r h)
