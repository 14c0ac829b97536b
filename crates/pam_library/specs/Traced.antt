-- A stack call by the lines that its outcome lists, with real objects too (this project's own).
use Rattle.std.specs.Prelude.{◌≡◌, ℕ, [], Option, Some, None}
use Rattle.pam_base.specs.declared.code.Code.{Code}
use Rattle.pam_base.specs.declared.call.Func.{Func}
use Rattle.pam_base.specs.declared.call.AppCall.{AppCall}
use Rattle.pam_handle.specs.dispatch_core.specs.Calls.{goes}
use Rattle.pam_handle.specs.AnyWorld.{LeavesPending}
use Rattle.pam_handle.specs.Handle.{PlainHandle}
use Rattle.pam_handle.specs.Items.{all_told}
use Rattle.pam_handle.specs.StackCalls.{held_in}
use Rattle.pam_handle.specs.Trail.{CallsByTrail, as_traced}
use Rattle.pam_library.specs.declared.outcome.Answer.TheVariants as answers
use Rattle.pam_library.specs.AnyWorld.{stack_refusal}
use Rattle.pam_library.specs.Outcome.{PlainOutcome}
use Rattle.pam_library.specs.Slots.{PlainSlot, closed, opened}
use Rattle.pam_library.specs.StackOf.{stack_of}

-- The code of a stack call, and what is held after it, are those to which the lines lead that its outcome lists: the
-- passes run these lines and no others, if each returns what is listed.
pub record IsTraced (func : Func) (old new : PlainHandle) (outcome : PlainOutcome) : Type 0 where
  pub code : Code
  pub answer_is : outcome.answer ≡ answers.Code code
  pub left : LeavesPending func code (all_told old) new new.pending
  pub by_trail : CallsByTrail (λ s. goes as_traced old.stacks func (held_in old) s) [] outcome.trail
      code (held_in new)

-- the same of a call on an open transaction, if it runs a stack and isn't refused before
abbrev pub TracesOpen : Option (Func × ℕ) → PlainHandle → PlainSlot → PlainOutcome → Type 0
TracesOpen None h new outcome = Unit {0}
TracesOpen (Some asked) h (closed conv) outcome = ⊥
TracesOpen (Some asked) h (opened k) outcome =
    stack_refusal h.pending asked.0 asked.1 ≡ None → IsTraced asked.0 h k outcome

abbrev pub TracesIn : AppCall → PlainSlot → PlainSlot → PlainOutcome → Type 0
TracesIn call (closed conv) new outcome = Unit {0}
TracesIn call (opened h) new outcome = TracesOpen (stack_of call) h new outcome

-- the same for the slot with a number
abbrev pub TracesAt : AppCall → Option PlainSlot → Option PlainSlot → PlainOutcome → Type 0
TracesAt call (Some old) (Some new) outcome = TracesIn call old new outcome
TracesAt call (Some old) None outcome = ⊥
TracesAt call None new outcome = Unit {0}
