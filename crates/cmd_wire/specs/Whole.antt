-- A whole run of frames: their calls, and how the open transactions are ended after them (this
-- project's own).
use Rattle.std.specs.Prelude.{◌≡◌, ◌⊎◌, ℕ, ◌≤◌, true, List, [], ◌∷◌, ◌++◌, length, Option, Some, None, Result, Ok, Err}
use Rattle.pam_base.specs.declared.call.Step.{Step}
use Rattle.pam_outside.specs.Streams.{SourceState, SinkState}
use Rattle.cmd_run.specs.pam_room.specs.Module.{Player}
use Rattle.pam_wire.specs.Frame.{AreBytes, frame_of}
use Rattle.pam_wire.specs.Stream.{AreFramesOf}
use Rattle.record_reader.specs.declared.ending.Ending.{Ending}
use Rattle.record_reader.specs.declared.ending.Ending.TheVariants.{Done, Refused}
use Rattle.record_reader.specs.declared.ending.Stop.{Stop}
use Rattle.record_reader.specs.declared.ending.Stop.TheVariants.{NoMemory, WriteFault}
use Rattle.record_reader.specs.Whole.{Runs}
use Rattle.frame_stream.specs.declared.fault.FrameFault.{FrameFault}
use Rattle.frame_stream.specs.Looked.{looked}
use Rattle.frame_stream.specs.Run.{step_at}
use Rattle.frame_stream.specs.Spelled.{Spells, answers_to, state_past}
use Rattle.cmd_run.specs.State.{Setting, RunState}
use Rattle.cmd_run.specs.Closings.{Closing, all_closed, closings_text}
use Rattle.cmd_wire.specs.Answered.{Closes, ClosesTo, closings}
pub use Rattle.cmd_wire.specs.Endings.{ending_status, stop_status}
use Rattle.cmd_wire.specs.Reading.{SpellsTo}
use Rattle.cmd_wire.specs.Step.{answers, Fails}

-- What follows the frames, depending on how they ended or stopped and on the result of the run: all
-- transactions are ended and answered; or those up to one whose answer isn't completely written,
-- and the others are ended; or all are ended and nothing is written.
abbrev pub IsPast : List Player → Result (Ending FrameFault) Stop
    → Result (Ending FrameFault) Stop → RunState → RunState → SinkState → SinkState → Type 0
IsPast players (Ok ending) (Ok same) last end p q =
    (same ≡ ending) × Closes players (ending_status ending) (Ok tt) last end p q
IsPast players (Ok ending) (Err stop) last end p q =
    (middle : RunState) × Closes players (ending_status ending) (Err stop) last middle p q
    × (end ≡ all_closed players (stop_status stop) middle)
IsPast players (Err stop) (Ok ending) last end p q = ⊥
IsPast players (Err stop) (Err same) last end p q =
    (same ≡ stop) × (end ≡ all_closed players (stop_status stop) last) × (q ≡ p)

-- the frames are served, and then the open transactions are ended
pub record RunsFrames (setting : Setting) (result : Result (Ending FrameFault) Stop)
    (start end : RunState) (x y : SourceState) (p q : SinkState) : Type 0 where
  pub served : Result (Ending FrameFault) Stop
  pub frames : ℕ
  pub last : RunState
  pub between : SinkState
  pub runs : Runs looked (step_at (answers setting)) (Fails setting) served frames
      start last x y p between
  pub followed : IsPast setting.players served result last end between q

-- ---- by the steps that the bytes taken spell

-- the step whose frame some bytes begin with
pub record IsNextStep (rest : List ℕ) (step : Step) : Type 0 where
  pub followed : List ℕ
  pub frames : AreFramesOf rest (step ∷ []) followed

module _ (setting : Setting) where
  -- It ended: what is written is the answers to these steps, one after the other, and then those of the implicit ends.
  -- The world is that after them.
  pub record AnswersAll (ending : Ending FrameFault) (start end : RunState) (x y : SourceState)
      (p q : SinkState) : Type 0 where
    pub taken : List ℕ
    pub source : x.left ≡ taken ++ y.left
    pub spelled : SpellsTo ending taken y.left
    pub last : RunState
    pub last_is : last ≡ state_past (answers setting) 0 start spelled.steps
    pub written : q.written ≡ p.written
        ++ (answers_to (answers setting) 0 start spelled.steps
        ++ closings_text (closings setting.players (ending_status ending) last))
    pub closed : end ≡ all_closed setting.players (ending_status ending) last

  -- At most the next step, after n others, was begun. A write failed in its answer; or an allocation failed, before its call, in it, or
  -- for its answer.
  abbrev pub IsCutIn : Stop → ℕ → List ℕ → RunState → RunState → List ℕ → Type 0
  IsCutIn WriteFault n rest s t part =
      (step : Step) × IsNextStep rest step × (t ≡ (answers setting n s step).0) × (more : List ℕ)
      × ((answers setting n s step).1 ≡ part ++ more)
  IsCutIn NoMemory n rest s t part =
      (part ≡ [])
      × ((t ≡ s) ⊎ ((step : Step) × IsNextStep rest step
      × ((t ≡ (answers setting n s step).0) ⊎ Fails setting n s (frame_of step) t)))

  -- It stopped among its frames: these steps are answered whole, the next one not, and all
  -- transactions are ended. Nothing is written after that.
  pub record StopsAmong (stop : Stop) (start end : RunState) (x y : SourceState)
      (p q : SinkState) : Type 0 where
    pub taken : List ℕ
    pub source : x.left ≡ taken ++ y.left
    pub steps : List Step
    pub rest : List ℕ
    pub frames : AreFramesOf taken steps rest
    pub few : length steps ≤ 65536
    pub part : List ℕ
    pub written : q.written ≡ p.written ++ (answers_to (answers setting) 0 start steps ++ part)
    pub last : RunState
    pub cut : IsCutIn stop (length steps) rest (state_past (answers setting) 0 start steps) last part
    pub closed : end ≡ all_closed setting.players (stop_status stop) last

  -- It stopped after them: all steps are answered, and some implicit ends, up to one whose answer isn't whole; the
  -- others are ended.
  pub record StopsAfter (stop : Stop) (start end : RunState) (x y : SourceState)
      (p q : SinkState) : Type 0 where
    pub taken : List ℕ
    pub source : x.left ≡ taken ++ y.left
    pub ending : Ending FrameFault
    pub spelled : SpellsTo ending taken y.left
    pub last : RunState
    pub last_is : last ≡ state_past (answers setting) 0 start spelled.steps
    pub whole : List Closing
    pub others : List Closing
    pub among : closings setting.players (ending_status ending) last ≡ whole ++ others
    pub part : List ℕ
    pub written : q.written ≡ p.written
        ++ (answers_to (answers setting) 0 start spelled.steps ++ (closings_text whole ++ part))
    pub middle : RunState
    pub cut : ClosesTo setting.players (ending_status ending) (Err stop)
        last middle whole others part
    pub closed : end ≡ all_closed setting.players (stop_status stop) middle

  abbrev pub Answers : Result (Ending FrameFault) Stop → RunState → RunState → SourceState
      → SourceState → SinkState → SinkState → Type 0
  Answers (Ok ending) start end x y p q = AnswersAll ending start end x y p q
  Answers (Err stop) start end x y p q =
      StopsAmong stop start end x y p q ⊎ StopsAfter stop start end x y p q

-- by its frames, and by the steps that the bytes taken spell
pub record RunsAnswered (setting : Setting) (result : Result (Ending FrameFault) Stop)
    (start end : RunState) (x y : SourceState) (p q : SinkState) : Type 0 where
  pub told : RunsFrames setting result start end x y p q
  pub answered : Answers setting result start end x y p q

-- ---- no run stops without a cause

-- how a run ends if its whole input has this fault, or none
abbrev pub ending_by : Option FrameFault → Ending FrameFault
ending_by None = Done
ending_by (Some fault) = Refused fault

-- If the whole input is bytes that spell these steps and have this after them, and neither source nor sink failed, the
-- run ends by that, or out of memory.
abbrev pub Completes : Result (Ending FrameFault) Stop → List ℕ → Type 0 → Type 0 → Type 0
Completes result input read_failed write_failed =
    (steps : List Step) (rest : List ℕ) (fault : Option FrameFault) → AreBytes input
    → Spells input true steps rest fault → (read_failed → ⊥) → (write_failed → ⊥)
    → (result ≡ Ok (ending_by fault)) ⊎ (result ≡ Err NoMemory)
