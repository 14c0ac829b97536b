-- The code of pam_authenticate(3) is that of its pass.
use Rattle.std.proofs.Common.{◌≡◌, ℕ, List, [], Option, None, sym, ap, ◌∙◌, subst}
use Rattle.pam_base.specs.declared.call.Func.TheVariants.{Authenticate}
use Rattle.pam_base.specs.declared.code.Code.{Code}
use Rattle.handler_chain.specs.declared.pass_kind.PassKind.TheVariants as kinds
use Rattle.handler_chain.specs.Pass.{pass_after}
use Rattle.handler_chain.specs.Walk.{code_of}
use Rattle.pam_room.specs.Module.{Player}
use Rattle.pam_room.specs.State.{PlainWorld, state_of}
use Rattle.dispatch_core.specs.Calls.{answers_held}
use Rattle.dispatch_core.specs.Lines.{answers_by}
use Rattle.dispatch_core.specs.Pending.{Pending}
use Rattle.pam_handle.specs.AfterPasses.{EndsLeaveIt}
use Rattle.pam_handle.specs.Call.{tokens_cleared}
use Rattle.pam_handle.specs.Handle.{PlainHandle}
use Rattle.pam_handle.specs.StackCalls.{passes_of, stack_call}
use Rattle.laws_denial.specs.Kept_out.{LockedIsNotAuthenticated}
use Rattle.laws_denial.proofs.Keeping_out.{kept_out}

module _ (ends : EndsLeaveIt) where
  code_is : (players : List Player) (number : Code → ℕ → ℕ) (flags : ℕ) (h : PlainHandle) (w : PlainWorld) → h.pending ≡ None
      → (stack_call players number Authenticate flags h w).code
      ≡ code_of (pass_after kinds.Keep (answers_held h.authenticated) (answers_by players Authenticate flags) h.stacks.auth [] (state_of (tokens_cleared h).room w))
  code_is players number flags h w none =
      let begins : PlainHandle = record h { pending = None } in
      subst (λ (x : PlainHandle). (stack_call players number Authenticate flags x w).code
      ≡ code_of (pass_after kinds.Keep (answers_held x.authenticated) (answers_by players Authenticate flags) x.stacks.auth [] (state_of (tokens_cleared x).room w)))
      (sym (ap (λ (p : Option Pending). record h { pending = p }) none))
      (ends number Authenticate (passes_of players Authenticate flags begins w) begins).code

  pub not_authenticated : LockedIsNotAuthenticated
  not_authenticated players number flags set possible h w user none each way_less is l = λ succeeds.
      kept_out players flags set possible h.stacks.auth (answers_held h.authenticated) (state_of (tokens_cleared h).room w) user each way_less is l
      (sym (code_is players number flags h w none) ∙ succeeds)
