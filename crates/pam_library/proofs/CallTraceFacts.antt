-- A stack call by the lines that its outcome lists.
use Rattle.std.proofs.Common.{◌≡◌, ℕ, Bool, true, false, if◌then◌else◌, not, IfOk, ◌++◌, Option, Some, None, option_map, Result, Ok, Err, refl, ap, sym, ◌∙◌, subst}
use Rattle.pam_base.specs.declared.code.Code.{Code}
use Rattle.pam_base.specs.declared.code.Code.TheVariants as codes
use Rattle.pam_base.specs.declared.call.AppCall.{AppCall}
use Rattle.pam_base.specs.declared.call.Func.{Func}
use Rattle.pam_handle.specs.dispatch_core.specs.Calls.{goes}
use Rattle.pam_handle.specs.dispatch_core.specs.Pending.{Pending, is_other_pending}
use Rattle.pam_handle.specs.AnyWorld.{LeavesPending}
use Rattle.pam_handle.specs.Handle.{PlainHandle}
use Rattle.pam_handle.specs.Items.{all_told}
use Rattle.pam_handle.specs.StackCalls.{held_in, is_refused_for_flags}
use Rattle.pam_handle.specs.Trail.{CallsByTrail, as_traced}
use Rattle.pam_library.specs.declared.outcome.Answer.{Answer}
use Rattle.pam_library.specs.declared.outcome.Answer.TheVariants as answers
use Rattle.pam_library.specs.declared.outcome.Outcome.{Outcome}
use Rattle.pam_library.specs.AnyWorld.{stack_refusal}
use Rattle.pam_library.specs.Outcome.{PlainOutcome, plain_outcome}
use Rattle.pam_library.specs.Slots.{PlainSlot, closed, opened}
use Rattle.pam_library.specs.SlotStep.{other_pending}
use Rattle.pam_library.specs.StackOf.{stack_of}
use Rattle.pam_library.specs.Traced.{IsTraced, TracesIn, TracesOpen}

-- ---- a call that isn't refused

flags_free : (b : Bool) (o : Option Func) → ◌≡◌ {A = Option Answer} (if b then Some (answers.Code codes.SystemErr) else option_map answers.Pending o) None → b ≡ false
flags_free true o e = absurd (cc)
flags_free false o e = refl

other_free : (same : Bool) (f : Func) → ◌≡◌ {A = Option Answer} (option_map answers.Pending (if same then None else Some f)) None → not same ≡ false
other_free true f e = refl
other_free false f e = absurd (cc)

pending_free : (b : Bool) (p : Option Pending) (func : Func) → ◌≡◌ {A = Option Answer} (if b then Some (answers.Code codes.SystemErr) else option_map answers.Pending (other_pending p func)) None
    → is_other_pending p func ≡ false
pending_free true p func e = absurd (cc)
pending_free false None func e = refl
pending_free false (Some p) func e = other_free _ p.func e

module _ (call : AppCall) (func : Func) (flags : ℕ) (is : stack_of call ≡ Some (func, flags)) where
  traces_as : (h k : PlainHandle) (o : PlainOutcome) → (◌≡◌ {A = Option Answer} (stack_refusal h.pending func flags) None → IsTraced func h k o)
      → TracesIn call (opened h) (opened k) o
  traces_as h k o t = subst (λ (s : Option (Func × ℕ)). TracesOpen s h (opened k) o) (sym is) t

  -- a refused call
  pub refused_untraced : (h k : PlainHandle) (o : PlainOutcome) (refused : Answer) → ◌≡◌ {A = Option Answer} (stack_refusal h.pending func flags) (Some refused)
      → TracesIn call (opened h) (opened k) o
  refused_untraced h k o refused some = traces_as h k o (λ none. let e : ◌≡◌ {A = Option Answer} (Some refused) None = sym some ∙ none in absurd (cc))

leaves_told : (func : Func) (code : Code) (h next : PlainHandle) (pending : Option Pending) → LeavesPending func code h next pending → LeavesPending func code (all_told h) (all_told next) pending
leaves_told func code h next None left = left
leaves_told func code h next (Some p) left = (left.0, left.1, left.2, refl)

module _ (func : Func) (flags : ℕ) (h next : PlainHandle) (o : PlainOutcome) (code : Code) where
  traced : h ≡ all_told h → o.trail ≡ next.room.transaction.trail → o.answer ≡ answers.Code code → LeavesPending func code h next next.pending
      → CallsByTrail (λ s. goes as_traced h.stacks func (held_in h) s) h.room.transaction.trail next.room.transaction.trail code (held_in next)
      → IsTraced func h (all_told next) o
  traced told trail answer left by = record {
    code = code;
    answer_is = answer;
    left = leaves_told func code h next next.pending left;
    by_trail = record {
      more = by.more;
      trail = trail ∙ by.trail ∙ ap (λ (k : PlainHandle). k.room.transaction.trail ++ by.more) told;
      leads = by.leads;
    };
  }

  -- a call that was run
  pub ran_traced : (call : AppCall) → stack_of call ≡ Some (func, flags) → (after : PlainHandle) → h ≡ all_told h → after ≡ all_told next → o.trail ≡ next.room.transaction.trail
      → o.answer ≡ answers.Code code
      → (is_refused_for_flags func flags ≡ false → is_other_pending h.pending func ≡ false → LeavesPending func code h next next.pending)
      → (is_refused_for_flags func flags ≡ false → is_other_pending h.pending func ≡ false
      → CallsByTrail (λ s. goes as_traced h.stacks func (held_in h) s) h.room.transaction.trail next.room.transaction.trail code (held_in next))
      → TracesIn call (opened h) (opened after) o
  ran_traced call is after told emptied trail answer left by =
      traces_as call func flags is h after o
      (λ none.
      let free = flags_free (is_refused_for_flags func flags) (other_pending h.pending func) none in
      let own = pending_free (is_refused_for_flags func flags) h.pending func none in
      subst (λ (k : PlainHandle). IsTraced func h k o) (sym emptied) (traced told trail answer (left free own) (by free own)))

-- ---- what the transaction had to report before is dropped

traces_told : (asked : Option (Func × ℕ)) (h : PlainHandle) (new : PlainSlot) (o : PlainOutcome) → TracesOpen asked (all_told h) new o → TracesOpen asked h new o
traces_told None h new o t = t
traces_told (Some asked) h (closed conv) o t = t
traces_told (Some asked) h (opened k) o t = λ none.
    let r = t none in
    record { code = r.code; answer_is = r.answer_is; left = r.left; by_trail = r.by_trail }

pub traced_before : {E : Type 0} (asked : Option (Func × ℕ)) (result : Result Outcome E) (h : PlainHandle) (new : PlainSlot) → IfOk result (λ o. TracesOpen asked (all_told h) new (plain_outcome o))
    → IfOk result (λ o. TracesOpen asked h new (plain_outcome o))
traced_before asked (Ok o) h new t = traces_told asked h new (plain_outcome o) t
traced_before asked (Err e) h new t = t
