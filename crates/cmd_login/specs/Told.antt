-- The calls of a login, if all objects are modelled (this project's own).
use Rattle.std.specs.Prelude.{◌≡◌, ℕ}
use Rattle.pam_base.specs.declared.call.AppCall.{AppCall}
use Rattle.pam_base.specs.declared.call.Step.{Step}
use Rattle.cmd_run.specs.pam_library.specs.Step.{Stepped, stepped}
use Rattle.cmd_run.specs.pam_library.specs.declared.outcome.Answer.{Answer}
use Rattle.cmd_run.specs.State.{Setting, RunState, kept_at, state_of}
use Rattle.cmd_run.specs.Step.{CallFails}
use Rattle.cmd_login.specs.Login.{KnownCalls}

abbrev pub step_of : AppCall → Step
step_of call = record { number = 1; call = call }

abbrev pub made_in : Setting → AppCall → RunState → Stepped
made_in setting call s =
    stepped setting.players setting.delay s.slots s.world (step_of call)

abbrev pub state_made : Setting → AppCall → RunState → RunState
state_made setting call s =
    state_of (made_in setting call s).slots (made_in setting call s).world

-- the result of a call, and the state after it, are exactly those that the library gives it
abbrev pub IsExact : Setting → AppCall → RunState → Answer → RunState → Type 0
IsExact setting call s answer after = (answer ≡ (made_in setting call s).outcome.answer)
    × (after ≡ state_made setting call s)

-- each call is made at the time of day of its place, if there is one
abbrev pub exact_calls : Setting → KnownCalls
exact_calls setting = record {
  made = λ place call s answer after. IsExact setting call (kept_at setting place s) answer after;
  fails = λ place call s after. CallFails setting (step_of call) (kept_at setting place s) after;
}
