-- What is known of any run, stated for the run of a front end's frames.
use Rattle.std.proofs.Common.{◌≡◌, inl, inr, ℕ, Bool, true, false, List, [], ◌∷◌, Result, Ok, Err, refl}
use Rattle.pam_outside.specs.Counts.{Rose}
use Rattle.pam_outside.specs.Streams.{SourceState, SinkState}
use Rattle.pam_wire.specs.Frame.{answer_of}
use Rattle.pam_wire.specs.Laws.{ReadsTable}
use Rattle.record_reader.specs.declared.ending.Ending.{Ending}
use Rattle.record_reader.specs.declared.ending.Stop.{Stop}
use Rattle.frame_stream.specs.declared.fault.FrameFault.{FrameFault}
use Rattle.frame_stream.specs.Laws.{AllAreLookedAt, BytesSpell, RunIsOfSteps, ServedAreSteps}
use Rattle.frame_stream.specs.Looked.{looked}
use Rattle.frame_stream.specs.Run.{step_at}
use Rattle.cmd_run.specs.pam_room.specs.Module.{Player}
use Rattle.cmd_run.specs.Closings.{Closing}
use Rattle.cmd_run.specs.Run.{CompletesSo, EndsSo, EndsTo, EndsWith, ReadsSo, RunsOrStops}
use Rattle.cmd_run.specs.State.{RunState, Setting}
use Rattle.cmd_wire.specs.Answered.{Closes, ClosesTo, nothing_last}
use Rattle.cmd_wire.specs.Endings.{ending_status, stop_status}
use Rattle.cmd_wire.specs.Ends.{IsEndOfRun}
use Rattle.cmd_wire.specs.Reading.{ReadsFrames, call_read}
use Rattle.cmd_wire.specs.Step.{Fails, answers, frame_asked, frame_step}
use Rattle.cmd_wire.specs.Whole.{Completes, RunsAnswered}
use Rattle.cmd_wire.proofs.FrameRequestFacts.{by_ending, by_frame, by_stop}
use Rattle.cmd_wire.proofs.Wholly.{broken, ended, stopped}
use Rattle.cmd_wire.proofs.TakenBytesFacts.{answers_all, completes, completes_not, frames_left, frames_read, stops_among, stops_past}

-- nothing comes after the answers of the implicit ends
module _ (players : List Player) (ending : Ending FrameFault) (n : ℕ) (s t : RunState) (p q : SinkState) where
  closes_to : (result : Result (Unit {0}) Stop) (whole others : List Closing) (part : List ℕ)
      → EndsTo answer_of nothing_last players ending n result s t whole others part
      → ClosesTo players (ending_status ending) result s t whole others part
  closes_to (Ok done) whole others part to = to
  closes_to (Err stop) whole [] part to =
      let e : ◌≡◌ {A = Bool} false true = to.0 in
      absurd cc
  closes_to (Err stop) whole (c ∷ cs) part to = to

  closes : (result : Result (Unit {0}) Stop) → EndsWith answer_of nothing_last players ending n result s t p q
      → Closes players (ending_status ending) result s t p q
  closes result e = record {
    whole = e.whole;
    others = e.others;
    among = e.among;
    part = e.part;
    written = e.written;
    to = closes_to result e.whole e.others e.part e.to;
    calls = e.calls;
    calls_ok = e.calls_ok;
  }

-- if all objects are modelled
pub runs_frames : BytesSpell → ((setting : Setting) → RunIsOfSteps (answers setting)) → ((setting : Setting) → ServedAreSteps (answers setting))
    → (setting : Setting) (result : Result (Ending FrameFault) Stop) (start end : RunState) (x y : SourceState) (p q : SinkState)
    → RunsOrStops looked frame_asked answer_of nothing_last frame_step Fails setting result start end x y p q → RunsAnswered setting result start end x y p q
runs_frames spell steps served setting (Ok ending) start end x y p q r =
    let closed : Closes setting.players (ending_status ending) (Ok tt) r.last end r.between q =
    closes setting.players ending r.items r.last end r.between q (Ok tt) r.ends in
    record {
      told = ended setting start x y p ending r.items r.last end r.between q r.serves.runs tt closed;
      answered = answers_all setting spell (steps setting) start x y p ending r.items r.last end r.between q r.serves.runs r.takes tt closed;
    }
runs_frames spell steps served setting (Err stop) start end x y p q (inl r) = record {
  told = stopped setting start x y p stop r.items r.last end q r.serves.runs r.stops.closed;
  answered = inl (stops_among setting (served setting) start r.last end x y p q stop r.items r.serves.runs r.takes r.stops.closed);
}
runs_frames spell steps served setting (Err stop) start end x y p q (inr r) =
    let closed : Closes setting.players (ending_status r.ending) (Err stop) r.last r.middle r.between q =
    closes setting.players r.ending r.items r.last r.middle r.between q (Err stop) r.ends in
    record {
      told = broken setting start x y p r.ending r.items r.last r.middle end r.between q r.serves.runs stop closed r.stops.closed;
      answered = inr (stops_past setting spell (steps setting) start x y p r.ending r.items r.last end r.between q r.serves.runs r.takes stop r.middle closed
          r.stops.closed);
    }

-- if only the source is
pub reads_frames : BytesSpell → RunIsOfSteps call_read → ReadsSo looked (step_at call_read) ReadsFrames
reads_frames spell runs = record {
  whole = λ result m x y r. frames_read spell runs result m x y r.runs r.takes;
  left = λ ending stop m x y r. frames_left spell runs ending stop m x y r.runs r.takes;
}

-- no run stops without a cause
pub completes_frames : RunIsOfSteps call_read → CompletesSo looked (step_at call_read) Completes
completes_frames runs = record {
  ended = λ ending m a b c d x y r read. completes runs ending m a b c d x y r.runs read;
  stopped = λ stop input a b c d written. completes_not (Ending FrameFault) stop input (Rose a b) c d written;
}

-- which ends it makes
pub ends_frames : AllAreLookedAt → ReadsTable → EndsSo looked frame_asked IsEndOfRun
ends_frames all law = record {
  by_item = by_frame all law;
  by_ending = λ tells input ending number status is. by_ending tells input ending (ending_status ending) refl number status is;
  by_stop = λ tells input stop number status is. by_stop tells input stop (stop_status stop) refl number status is;
}
