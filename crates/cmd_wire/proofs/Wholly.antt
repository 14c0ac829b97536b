-- A whole run of frames, for each way in which it ends.
use Rattle.std.proofs.Common.{◌≡◌, ℕ, Ok, Err, refl}
use Rattle.pam_outside.specs.Streams.{SourceState, SinkState}
use Rattle.record_reader.specs.declared.ending.Ending.{Ending}
use Rattle.record_reader.specs.declared.ending.Stop.{Stop}
use Rattle.record_reader.specs.Whole.{Runs}
use Rattle.frame_stream.specs.declared.fault.FrameFault.{FrameFault}
use Rattle.frame_stream.specs.Looked.{looked}
use Rattle.frame_stream.specs.Run.{step_at}
use Rattle.cmd_run.specs.State.{Setting, RunState}
use Rattle.cmd_run.specs.Closings.{all_closed}
use Rattle.cmd_run.specs.Whole.{stop_status}
use Rattle.cmd_wire.specs.Answered.{Closes}
use Rattle.cmd_wire.specs.Step.{answers, Fails}
use Rattle.cmd_wire.specs.Whole.{RunsFrames, ending_status}

module _ (setting : Setting) (start : RunState) (x y : SourceState) (p : SinkState) where
  -- it stops among the frames
  pub stopped : (stop : Stop) (frames : ℕ) (last end : RunState) (q : SinkState)
      → Runs looked (step_at (answers setting)) (Fails setting) (Err stop) frames start last x y p q
      → end ≡ all_closed setting.players (stop_status stop) last → RunsFrames setting (Err stop) start end x y p q
  stopped stop frames last end q r e = record { served = Err stop; frames = frames; last = last; between = q; runs = r; followed = (refl, e, refl) }

  -- all frames are answered
  pub ended : (ending : Ending FrameFault) (frames : ℕ) (last end : RunState) (between q : SinkState)
      → Runs looked (step_at (answers setting)) (Fails setting) (Ok ending) frames start last x y p between
      → (done : Unit {0}) → Closes setting.players (ending_status ending) (Ok done) last end between q → RunsFrames setting (Ok ending) start end x y p q
  ended ending frames last end between q r done c = record { served = Ok ending; frames = frames; last = last; between = between; runs = r; followed = (refl, c) }

  -- it stops after the frames
  pub broken : (ending : Ending FrameFault) (frames : ℕ) (last middle end : RunState) (between q : SinkState)
      → Runs looked (step_at (answers setting)) (Fails setting) (Ok ending) frames start last x y p between
      → (stop : Stop) → Closes setting.players (ending_status ending) (Err stop) last middle between q
      → end ≡ all_closed setting.players (stop_status stop) middle → RunsFrames setting (Err stop) start end x y p q
  broken ending frames last middle end between q r stop c e = record {
    served = Ok ending;
    frames = frames;
    last = last;
    between = between;
    runs = r;
    followed = (middle, c, e);
  }
