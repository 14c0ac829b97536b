-- The six calls of a library are those of a transcript's checker.
use Rattle.std.proofs.Common.{◌≡◌, ℕ, Bool, true, false, true≢false, if◌then◌else◌, Option, Some, None, refl, sym, subst}
use Rattle.pam_base.specs.declared.code.Code.{Code}
use Rattle.pam_base.specs.declared.call.Func.{Func}
use Rattle.pam_base.specs.declared.call.Func.TheVariants.{Authenticate}
use Rattle.handler_chain.specs.Route.{KeptAnswers}
use Rattle.pam_room.specs.State.{State, state_of}
use Rattle.dispatch_core.specs.Calls.{Went, held, went}
use Rattle.dispatch_core.specs.Pending.{Pending, is_other_pending, past_in, first_in}
use Rattle.pam_handle.specs.Call.{Called}
use Rattle.pam_handle.specs.Handle.{PlainHandle}
use Rattle.pam_handle.specs.StackCalls.{finished, held_in, passes_of, room_begun}
use Rattle.pam_library.specs.SlotStep.{is_refused_for_flags}
use Rattle.laws_audit.specs.Calls.{GoesAs, LibraryCallsGo}

-- what is done after the passes of a call changes none of this
record Leaves (r : Went State) (h : PlainHandle) (c : Called) : Type 0 where
  code : c.code ≡ r.code
  held_is : held_in c.handle ≡ r.held
  trail : c.handle.room.transaction.trail ≡ r.state.room.transaction.trail
  stacks : c.handle.stacks ≡ h.stacks

leaves : (number : Code → ℕ → ℕ) (func : Func) (code : Code) (authenticated opened : Option KeptAnswers) (pending : Option Pending) (s : State) (h : PlainHandle)
    → let r = went code (held authenticated opened pending) s in Leaves r h (finished number func r h)
leaves number Authenticate code authenticated opened None s h = record { code = refl; held_is = refl; trail = refl; stacks = refl }
leaves number Authenticate code authenticated opened (Some p) s h = record { code = refl; held_is = refl; trail = refl; stacks = refl }
leaves number func code authenticated opened None s h = record { code = refl; held_is = refl; trail = refl; stacks = refl }
leaves number func code authenticated opened (Some p) s h = record { code = refl; held_is = refl; trail = refl; stacks = refl }

-- a call that is neither refused nor aborted
third : (refused other : Bool) (x y z : Called) → refused ≡ false → other ≡ false → (if refused then x else if other then y else z) ≡ z
third false false x y z free own = refl
third false true x y z free own = absurd (true≢false own)
third true other x y z free own = absurd (true≢false free)

pub library_calls_go : LibraryCallsGo
library_calls_go players number func flags h w free own =
    let r = passes_of players func flags h w in
    let left = leaves number func r.code r.held.authenticated r.held.opened r.held.pending r.state h in
    let goes : GoesAs players func flags (past_in h.pending) (first_in h.pending) h (finished number func r h) = record {
      begun = state_of (room_begun func h) w;
      trail = refl;
      code = left.code;
      held = left.held_is;
      told = left.trail;
      stacks = left.stacks;
    } in
    subst (λ (c : Called). GoesAs players func flags (past_in h.pending) (first_in h.pending) h c)
    (sym (third (is_refused_for_flags func flags) (is_other_pending h.pending func) _ _ (finished number func r h) free own)) goes
