-- Tokens are cleared when a call begins and before it waits.
use Rattle.std.proofs.Common.{◌≡◌, ℕ, Bool, true, false, true≢false, if◌then◌else◌, is_some, Option, Some, None, refl, sym, ap, ◌∙◌, subst}
use Rattle.pam_base.specs.declared.code.Code.{Code}
use Rattle.pam_base.specs.declared.call.Func.TheVariants.{Authenticate, ChAuthTok}
use Rattle.dispatch_core.specs.Calls.{Went}
use Rattle.dispatch_core.specs.Pending.{Pending, is_other_pending}
use Rattle.dispatch_core.specs.pam_room.specs.State.{State}
use Rattle.pam_handle.specs.Call.{Called, called, tokens_cleared}
use Rattle.pam_handle.specs.Handle.{PlainHandle}
use Rattle.pam_handle.specs.StackCalls.{ended, has_pass_flag, passes_of, past_passes, stack_call}
use Rattle.laws_token.specs.Tokens.{BeginsWithoutTokens, EarlierTokensDontMatter, FirstLineSeesNoToken, NoTokenWhileItWaits, WaitsUnset, with_tokens}

-- what holds if nothing is pending
if_begins : (Holds : PlainHandle → Type 0) (h : PlainHandle) → h.pending ≡ None → Holds (record h { pending = None }) → Holds h
if_begins Holds h none holds = subst Holds (sym (ap (λ (p : Option Pending). record h { pending = p }) none)) holds

unless : (b : Bool) (x y : Called) → b ≡ false → (if b then x else y) ≡ y
unless true x y e = absurd (true≢false e)
unless false x y e = refl

-- ---- what was set before

pub earlier_dont_matter : EarlierTokensDontMatter
earlier_dont_matter players number Authenticate flags h w token old clears none plain =
    if_begins (λ (x : PlainHandle). stack_call players number Authenticate flags (with_tokens token old x) w ≡ stack_call players number Authenticate flags x w)
    h none refl
earlier_dont_matter players number ChAuthTok flags h w token old clears none plain =
    if_begins (λ (x : PlainHandle). stack_call players number ChAuthTok flags (with_tokens token old x) w ≡ stack_call players number ChAuthTok flags x w)
    h none (unless (has_pass_flag flags) _ _ plain ∙ sym (unless (has_pass_flag flags) _ _ plain))
earlier_dont_matter players number func flags h w token old clears none plain = absurd (true≢false (sym clears))

pub first_line : FirstLineSeesNoToken
first_line Authenticate h clears none =
    if_begins (BeginsWithoutTokens Authenticate) h none
    (record { same = λ token old. refl; unset = (refl, refl); required = λ begun requires. requires clears refl })
first_line ChAuthTok h clears none =
    if_begins (BeginsWithoutTokens ChAuthTok) h none
    (record { same = λ token old. refl; unset = (refl, refl); required = λ begun requires. requires clears refl })
first_line func h clears none = absurd (true≢false (sym clears))

-- ---- the wait

module _ (number : Code → ℕ → ℕ) (r : Went State) (h : PlainHandle) where
  ends_unset : (pending : Option Pending) → pending ≡ None
      → WaitsUnset number r (if is_some pending then called r.code (past_passes r h) r.state.world else ended number Authenticate r.code (past_passes r h) r.state.world)
  ends_unset None is = record { before = tokens_cleared (past_passes r h); unset = (refl, refl); rest = refl }
  ends_unset (Some p) is = absurd cc

pub no_token : NoTokenWhileItWaits
no_token players number flags h w free = λ ends.
    let r = passes_of players Authenticate flags h w in
    subst (WaitsUnset number r) (sym (unless (is_other_pending h.pending Authenticate) _ _ free)) (ends_unset number r h r.held.pending ends)
