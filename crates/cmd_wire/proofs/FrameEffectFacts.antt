-- What a frame does, from what it asks for.
use Rattle.std.proofs.Common.{◌≡◌, ℕ, Bool, true, false, cond, leb, List, Option, Some, None, Err, refl}
use Rattle.pam_base.specs.declared.call.Step.{Step}
use Rattle.pam_wire.specs.Frame.{answer_of}
use Rattle.pam_wire.specs.Read.{step_of}
use Rattle.frame_stream.specs.declared.fault.FrameFault.TheVariants.{TooManyFrames}
use Rattle.frame_stream.specs.Run.{called, step_at}
use Rattle.cmd_run.specs.Reading.{read_as}
use Rattle.cmd_run.specs.Serve.{Does, served_line}
use Rattle.cmd_run.specs.State.{RunState, Setting, kept_at}
use Rattle.cmd_wire.specs.Reading.{call_read}
use Rattle.cmd_wire.specs.Step.{Fails, answers, frame_asked, frame_step, framed}
use Rattle.cmd_wire.proofs.FrameRequestFacts.{as_step}

step_by : (setting : Setting) (n : ℕ) (many : Bool) (s : RunState) (found : Option Step)
    → cond many (Err TooManyFrames) (called (answers setting) n s found) ≡ served_line answer_of setting (kept_at setting n s) (cond many (Err TooManyFrames) (framed found))
unfolding answers
step_by setting n true s found = refl
step_by setting n false s None = refl
step_by setting n false s (Some step) = refl

steps : (setting : Setting) (n : ℕ) (s : RunState) (frame : List ℕ) → frame_step setting n s frame ≡ served_line answer_of setting (kept_at setting n s) (frame_asked n frame)
unfolding step_at
steps setting n s frame = step_by setting n (leb 65536 n) s (step_of frame)

read_by : (n : ℕ) (many : Bool) (found : Option Step) → cond many (Err TooManyFrames) (called call_read n tt found)
    ≡ read_as (cond many (Err TooManyFrames) (framed found))
read_by n true found = refl
read_by n false None = refl
read_by n false (Some step) = refl

reads : (n : ℕ) (frame : List ℕ) → step_at call_read n tt frame ≡ read_as (frame_asked n frame)
unfolding step_at
reads n frame = read_by n (leb 65536 n) (step_of frame)

pub frames_do : Does frame_asked answer_of frame_step Fails (step_at call_read)
frames_do = record {
  steps = steps;
  fails_so = λ setting n s t frame call e f. record { step = call; asked = as_step n frame call e; fails = f };
  reads = reads;
}
