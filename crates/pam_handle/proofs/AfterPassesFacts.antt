-- What a stack call has of its passes.
use Rattle.std.proofs.Common.{◌≡◌, ℕ, Option, Some, None, refl, ◌∙◌}
use Rattle.std.specs.Prelude.{Bool, true, false, ◌==◌, if◌then◌else◌}
use Rattle.pam_base.specs.declared.code.Code.{Code}
use Rattle.pam_base.specs.declared.call.Func.{Func}
use Rattle.pam_base.specs.declared.call.Func.TheVariants.{Authenticate}
use Rattle.dispatch_core.specs.Calls as calls
use Rattle.dispatch_core.specs.Calls.{Asking, Held, Passed, Went, first_kept, first_stack, held_past, kind_of, passes, went}
use Rattle.dispatch_core.specs.Pending.{Pending}
use Rattle.dispatch_core.specs.fail_delay.specs.Delay.{asked_delay}
use Rattle.dispatch_core.specs.fail_delay.specs.Wait.{wait_of}
use Rattle.dispatch_core.specs.handler_chain.specs.Route.{KeptAnswers}
use Rattle.dispatch_core.specs.pam_outside.specs.Time.{random_taken, rested}
use Rattle.dispatch_core.specs.pam_room.specs.State.{PlainWorld, State}
use Rattle.pam_handle.specs.AfterPasses.{EndsAs, EndsLeaveIt}
use Rattle.pam_handle.specs.Call.{random_taken_for, rested_by}
use Rattle.pam_handle.specs.Handle.{PlainHandle}
use Rattle.pam_handle.specs.StackCalls.{finished}

-- only the clock and the sleep of a world may differ
record Stays (w v : PlainWorld) : Type 0 where
  vault : v.vault ≡ w.vault
  process : v.process ≡ w.process

rested_stays : (wait : Option ℕ) (w : PlainWorld) → Stays w (rested_by wait w)
rested_stays None w = record { vault = refl; process = refl }
rested_stays (Some n) w = elim (n == 0) as (λ (x : Bool). Stays w (if x then w else record w { nap = rested w.nap n })) [
  | true ↦ record { vault = refl; process = refl }
  | false ↦ record { vault = refl; process = refl }
]

drawn_stays : (longest : ℕ) (w : PlainWorld) → Stays w (random_taken_for longest w)
drawn_stays longest w = elim (longest == 0) as (λ (x : Bool). Stays w (if x then w else record w { clock = random_taken w.clock })) [
  | true ↦ record { vault = refl; process = refl }
  | false ↦ record { vault = refl; process = refl }
]

ends_as : (number : Code → ℕ → ℕ) (func : Func) (code : Code) (a o : Option KeptAnswers) (pending : Option Pending) (s : State) (h : PlainHandle)
    → let r = went code (calls.held a o pending) s in EndsAs r h (finished number func r h)
ends_as number Authenticate code a o None s h =
    let longest = s.room.transaction.delay in
    let drawn = drawn_stays longest s.world in
    let asked = asked_delay longest s.world.clock.word in
    let slept = rested_stays (wait_of h.delay_on number code asked) (random_taken_for longest s.world) in
    record { code = refl; held = refl; stacks = refl; trail = refl; vault = slept.vault ∙ drawn.vault; process = slept.process ∙ drawn.process }
ends_as number Authenticate code a o (Some p) s h = record { code = refl; held = refl; stacks = refl; trail = refl; vault = refl; process = refl }
ends_as number func code a o None s h = record { code = refl; held = refl; stacks = refl; trail = refl; vault = refl; process = refl }
ends_as number func code a o (Some p) s h = record { code = refl; held = refl; stacks = refl; trail = refl; vault = refl; process = refl }

pub ends_leave_it : EndsLeaveIt
ends_leave_it number func r h = ends_as number func r.code r.held.authenticated r.held.opened r.held.pending r.state h
