-- What one line of a script does (this project's own).
use Rattle.std.specs.Prelude.{◌≡◌, ℕ, Bool, true, List, [], Result, Ok, Err, IsTrue}
use Rattle.pam_base.specs.declared.call.Step.{Step}
use Rattle.pam_base.specs.declared.fault.ScriptKind.{ScriptKind}
use Rattle.report_step.specs.dispatch_core.specs.Lines.{names_of}
use Rattle.report_step.specs.pam_room.specs.State.{PlainWorld}
use Rattle.report_step.specs.pam_library.specs.AnyWorld.{FailsAt, StopsAt, leaves_world}
use Rattle.report_step.specs.pam_library.specs.Applied.{Leaves}
use Rattle.report_step.specs.pam_library.specs.Slots.{slot_at}
use Rattle.report_step.specs.pam_library.specs.Step.{Stepped, stepped}
use Rattle.script_lang.specs.declared.line.Line.{Line}
use Rattle.script_lang.specs.declared.line.Line.TheVariants as lines
use Rattle.script_lang.specs.Line.{parsed}
use Rattle.record_reader.specs.LineRun.{LineStep}
use Rattle.report_step.specs.Step.{step_text}
use Rattle.cmd_run.specs.State.{Setting, RunState, kept_at, state_of}

-- the world with another time, another random word, another caller
abbrev pub at_moment : ℕ → PlainWorld → PlainWorld
at_moment moment w = record w { clock = record w.clock { moment = moment } }

abbrev pub with_word : ℕ → PlainWorld → PlainWorld
with_word word w = record w { clock = record w.clock { word = word } }

abbrev pub with_caller : ℕ → PlainWorld → PlainWorld
with_caller caller w = record w { process = record w.process { caller = caller } }

-- The clock was set: what is modelled before it, as the two flags say, is modelled after it.
pub record SetsClock (set : PlainWorld → PlainWorld) (before after : Bool)
    (old new : PlainWorld) : Type 0 where
  pub tells : after ≡ before
  pub told : IsTrue before → new ≡ set old

module _ (setting : Setting) where
  -- a call, and its lines of the report
  abbrev pub called : Step → Stepped → RunState × List ℕ
  called step t = (
    state_of t.slots t.world,
    step_text (names_of setting.players) step t.outcome
        t.world.process.ledger,
  )

  -- the state after a line, and what is written for it: nothing except for a call
  abbrev pub applied : RunState → Line → RunState × List ℕ
  applied s lines.Blank = (s, [])
  applied s (lines.Step step) =
      called step (stepped setting.players setting.delay s.slots s.world step)
  applied s (lines.At moment) = (state_of s.slots (at_moment moment s.world), [])
  applied s (lines.Random word) = (state_of s.slots (with_word word s.world), [])
  applied s (lines.Caller caller) = (state_of s.slots (with_caller caller s.world), [])

  abbrev pub applied_or_refused : RunState → Result Line ScriptKind
      → Result (RunState × List ℕ) ScriptKind
  applied_or_refused s (Ok line) = Ok (applied s line)
  applied_or_refused s (Err kind) = Err kind

  unfoldable pub line_step : LineStep RunState
  line_step n s line = applied_or_refused (kept_at setting n s) (parsed line)

-- The states that a call may leave if it runs out of memory: its transaction as the call's contract
-- allows, every other one as it was, and the data and the world as the contract allows. For a stack
-- call that names the line that ran out of memory, and what its module left. There was no sleep.
pub record CallFails (setting : Setting) (step : Step) (s t : RunState) : Type 0 where
  pub place : FailsAt true step.call (slot_at s.slots step.number) (slot_at t.slots step.number)
  pub leaves : Leaves setting.players step s.slots t.slots s.world t.world
  pub stops : StopsAt setting.players true step.call (slot_at s.slots step.number)
      (slot_at t.slots step.number) s.world t.world
  pub world : leaves_world (slot_at s.slots step.number) step.call ≡ true → t.world ≡ s.world
  pub nap : t.world.nap ≡ s.world.nap

-- the states that a line that asks for such a call, and has n lines before it, may leave
pub record Fails (setting : Setting) (n : ℕ) (s : RunState) (line : List ℕ) (t : RunState) : Type
    0 where
  pub step : Step
  pub asked : parsed line ≡ Ok (lines.Step step)
  pub fails : CallFails setting step (kept_at setting n s) t
