-- What the bytes of a stream of frames alone say about a run of it, whatever its calls do (this
-- project's own).
use Rattle.std.specs.Prelude.{◌≡◌, ℕ, ◌+◌, ◌≤◌, Bool, true, false, List, [], ◌++◌, length, None, Result, Ok, Err}
use Rattle.pam_base.specs.declared.call.Step.{Step}
use Rattle.pam_outside.specs.Streams.{SourceState}
use Rattle.record_reader.specs.declared.ending.Ending.{Ending}
use Rattle.record_reader.specs.declared.ending.Stop.{Stop}
use Rattle.record_reader.specs.Turns.{IsEndedBy, refusal_of}
use Rattle.record_reader.specs.Whole.{Runs}
use Rattle.frame_stream.specs.declared.fault.FrameFault.{FrameFault}
use Rattle.frame_stream.specs.Looked.{looked}
use Rattle.frame_stream.specs.Run.{CallStep, step_at}
use Rattle.frame_stream.specs.Spelled.{Spells}
use Rattle.cmd_run.specs.Reading.{AnyState, nowhere}

-- ---- all frames, for calls that do nothing and a sink to which nothing is written

abbrev pub call_read : CallStep (Unit {0})
call_read n done step = (tt, [])

abbrev pub ReadsAll : Result (Ending FrameFault) Stop → ℕ → SourceState → SourceState → Type 0
ReadsAll result m x y = Runs looked (step_at call_read) AnyState result m tt tt x y nowhere nowhere

-- ---- the whole run

-- How a run ends by the bytes taken. They are the frames of these steps, at most 65,536, and a rest: nothing, at the
-- end of the input; nothing or the beginning of a frame, if the source failed; or what is refused.
pub record SpellsTo (ending : Ending FrameFault) (taken left : List ℕ) : Type 0 where
  pub ended : Bool
  pub at_end : ended ≡ true → left ≡ []
  pub by : IsEndedBy ending ended
  pub steps : List Step
  pub rest : List ℕ
  pub spells : Spells taken ended steps rest (refusal_of ending)

abbrev pub EndsAtBytes : Result (Ending FrameFault) Stop → List ℕ → List ℕ → Type 0
EndsAtBytes (Ok ending) taken left = SpellsTo ending taken left
EndsAtBytes (Err stop) taken left = Unit {0}

-- All frames are processed before the next read: the bytes taken before the last read, which takes
-- at most 512, hold nothing that is refused.
pub record LooksBefore (taken : List ℕ) : Type 0 where
  pub early : List ℕ
  pub late : List ℕ
  pub parts : taken ≡ early ++ late
  pub room : length late ≤ 512
  pub steps : List Step
  pub rest : List ℕ
  pub spells : Spells early false steps rest None

-- what was taken, with at most one read more than it has bytes
pub record ReadsFrames (result : Result (Ending FrameFault) Stop) (x y : SourceState) : Type 0 where
  pub taken : List ℕ
  pub source : x.left ≡ taken ++ y.left
  pub reads : y.calls ≤ x.calls + length taken + 1
  pub ends : y.reads_at_end ≤ x.reads_at_end + 1
  pub by : EndsAtBytes result taken y.left
  pub looks : LooksBefore taken
