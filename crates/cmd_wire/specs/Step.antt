-- What one call of a front end does (this project's own).
use Rattle.std.specs.Prelude.{◌≡◌, ℕ, List, Option, Some, None, Result, Ok, Err, nat_le, if◌then◌else◌}
use Rattle.pam_base.specs.declared.call.Step.{Step}
use Rattle.record_reader.specs.Run.{ItemStep}
use Rattle.frame_stream.specs.declared.fault.FrameFault.{FrameFault}
use Rattle.frame_stream.specs.declared.fault.FrameFault.TheVariants.{BadFrame, TooManyFrames}
use Rattle.frame_stream.specs.Run.{CallStep, step_at}
use Rattle.cmd_run.specs.pam_library.specs.Step.{stepped}
use Rattle.cmd_run.specs.script_lang.specs.declared.line.Line.{Line}
use Rattle.cmd_run.specs.script_lang.specs.declared.line.Line.TheVariants as lines
use Rattle.pam_wire.specs.Frame.{answer_of}
use Rattle.pam_wire.specs.Read.{step_of}
use Rattle.cmd_run.specs.State.{RunState, Setting, kept_at}
use Rattle.cmd_run.specs.Step.{CallFails, called}

-- a state, and its report as an answer
abbrev pub answered : RunState × List ℕ → RunState × List ℕ
answered c = (c.0, answer_of c.1)

-- the state after a call that follows n others, and its answer; the clock is set before it
unfoldable pub answers : Setting → CallStep RunState
answers setting n s step = let now = kept_at setting n s in
    answered (called setting step (stepped setting.players setting.delay now.slots now.world step))

-- what a frame asks for that follows n others
abbrev pub framed : Option Step → Result Line FrameFault
framed None = Err BadFrame
framed (Some step) = Ok (lines.Step step)

abbrev pub frame_asked : ℕ → List ℕ → Result Line FrameFault
frame_asked n frame = if nat_le 65536 n then Err TooManyFrames else framed (step_of frame)

-- its effect
abbrev pub frame_step : Setting → ItemStep RunState FrameFault
frame_step setting = step_at (answers setting)

-- the states that a frame after n others may leave if its call runs out of memory
pub record Fails (setting : Setting) (n : ℕ) (s : RunState) (frame : List ℕ) (t : RunState) : Type
    0 where
  pub step : Step
  pub asked : step_of frame ≡ Some step
  pub fails : CallFails setting step (kept_at setting n s) t
