-- A run of frames: their calls, one after the other, whatever a call does (this project's own).
use Rattle.std.specs.Prelude.{ℕ, List, Option, Some, None, Result, Ok, Err, nat_le, if◌then◌else◌}
use Rattle.pam_base.specs.declared.call.Step.{Step}
use Rattle.frame_stream.specs.declared.fault.FrameFault.{FrameFault}
use Rattle.frame_stream.specs.declared.fault.FrameFault.TheVariants.{BadFrame, TooManyFrames}
use Rattle.pam_wire.specs.Read.{step_of}

-- what a call after n others does to a state: the state after it and the answer that is written for it
abbrev pub CallStep : Type 0 → Type 0
CallStep State = ℕ → State → Step → State × List ℕ

abbrev pub called : {State : Type 0} → CallStep State → ℕ → State → Option Step
    → Result (State × List ℕ) FrameFault
called answers n s None = Err BadFrame
called answers n s (Some step) = Ok (answers n s step)

-- a frame after n others; frame 65,537 is refused
unfoldable pub step_at : {State : Type 0} → CallStep State → ℕ → State → List ℕ
    → Result (State × List ℕ) FrameFault
step_at answers n s frame =
    if nat_le 65536 n then Err TooManyFrames else called answers n s (step_of frame)
