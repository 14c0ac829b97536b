-- At what time the modules of the lines are asked that a step runs.
use Rattle.std.proofs.Common.{◌≡◌, ℕ, zero, suc, List, [], ◌∷◌, Option, Some, None, slice_get, refl, sym, ◌∙◌, subst}
use Rattle.pam_base.specs.declared.code.Code.{Code}
use Rattle.pam_base.specs.declared.call.Func.{Func}
use Rattle.pam_base.specs.declared.call.Step.{Step}
use Rattle.pam_handle.specs.dispatch_core.specs.Lines.{call_of, names_of}
use Rattle.pam_handle.specs.handler_chain.specs.FlatLines.{module_of}
use Rattle.pam_outside.specs.Files.{File}
use Rattle.pam_outside.specs.Time.{ClockState, Time, after_draws, random_taken, time_of}
use Rattle.pam_handle.specs.pam_room.specs.Call.{PlainCall}
use Rattle.pam_handle.specs.pam_room.specs.Module.{Player, played_in}
use Rattle.pam_handle.specs.pam_room.specs.Serve.{at_work, serve_line, served_by}
use Rattle.pam_handle.specs.pam_room.specs.State.{PlainWorld, State, scene_in, state_of}
use Rattle.pam_handle.specs.pam_room.specs.declared.visits.Visit.{Visit}
use Rattle.pam_handle.specs.Items.{all_told}
use Rattle.pam_handle.specs.StackCalls.{room_begun}
use Rattle.pam_library.specs.Plays.{AreAskedAt, AskedLine, LineRun, RunsBy, RunsNothing, StepAsks, asked_along, run_in}
use Rattle.pam_library.specs.StackOf.{stack_of}
use Rattle.pam_library.specs.Slots.{PlainSlot, closed, opened, slot_at}

-- reading random words leaves the time
pub draws_pass : (n : ℕ) (s : ClockState) → time_of (after_draws n s) ≡ time_of s
draws_pass zero s = refl
draws_pass (suc n) s = draws_pass n (random_taken s)

module _ (players : List Player) where
  -- a line that is run leaves the time
  serving_passes : (o : Option Player) (n : ℕ) (call : PlainCall) (s : State) → time_of (served_by players o n call s).state.world.clock ≡ time_of s.world.clock
  serving_passes None n call s = refl
  serving_passes (Some p) n call s = draws_pass (played_in p.plays call (scene_in (at_work n s))).draws s.world.clock

  line_passes : (number : Option ℕ) (place : ℕ) (path : List ℕ) (call : PlainCall) (s : State)
      → time_of (serve_line players number place path call s).state.world.clock ≡ time_of s.world.clock
  line_passes None place path call s = refl
  line_passes (Some n) place path call s = serving_passes (slice_get players n) n call s

  along_at : (time : Time) (ls : List LineRun) (s : State) → time_of s.world.clock ≡ time → AreAskedAt time (asked_along players ls s)
  along_at time [] s now = tt
  along_at time (l ∷ ls) s now =
      let next : time_of (run_in players l s).state.world.clock ≡ time_of s.world.clock =
      line_passes (module_of (names_of players) l.rule) l.visit.place l.rule.path (call_of l.func l.flags l.rule) s in
      (now, along_at time ls (run_in players l s).state (next ∙ now))

  nothing_at : (w : PlainWorld) (trail : List Visit) (asked : List AskedLine) (last : List File) → RunsNothing w trail asked last → AreAskedAt (time_of w.clock) asked
  nothing_at w trail asked last r = subst (λ (a : List AskedLine). AreAskedAt (time_of w.clock) a) (sym r.asked_are) tt

  by_at : (w : PlainWorld) (slot : Option PlainSlot) (call : Option (Func × ℕ)) (trail : List Visit) (asked : List AskedLine) (last : List File)
      → RunsBy players w slot call trail asked last → AreAskedAt (time_of w.clock) asked
  by_at w (Some (opened h)) (Some call) trail asked last r =
      subst (λ (a : List AskedLine). AreAskedAt (time_of w.clock) a) (sym r.asked_are) (along_at (time_of w.clock) r.lines (state_of (room_begun call.0 (all_told h)) w) refl)
  by_at w (Some (opened h)) None trail asked last r = nothing_at w trail asked last r
  by_at w (Some (closed conv)) call trail asked last r = nothing_at w trail asked last r
  by_at w None call trail asked last r = nothing_at w trail asked last r

  pub step_at : (number : Code → ℕ → ℕ) (slots : List PlainSlot) (w : PlainWorld) (step : Step) (asked : List AskedLine) → StepAsks players number slots w step asked
      → AreAskedAt (time_of w.clock) asked
  step_at number slots w step asked a = by_at w (slot_at slots step.number) (stack_of step.call) _ asked _ a
