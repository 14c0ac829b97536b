-- A run of a front end's frames under a root, by the status with which the program ends (this
-- project's own).
use Rattle.std.specs.Prelude.{◌≡◌, ◌⊎◌, ℕ, ◌+◌, ◌≤◌, true, List, ◌++◌, length, Option, Result, Ok}
use Rattle.pam_base.specs.declared.call.Step.{Step}
use Rattle.pam_outside.specs.Streams.{SourceState, SinkState}
use Rattle.pam_room.specs.State.{PlainWorld}
use Rattle.pam_library.specs.Slots.{PlainSlot}
use Rattle.cmd_wire.specs.pam_wire.specs.Frame.{AreBytes}
use Rattle.record_reader.specs.declared.ending.Ending.{Ending}
use Rattle.record_reader.specs.declared.ending.Stop.{Stop}
use Rattle.cmd_wire.specs.frame_stream.specs.declared.fault.FrameFault.{FrameFault}
use Rattle.cmd_wire.specs.frame_stream.specs.Spelled.{Spells}
use Rattle.cmd_run.specs.State.{RunState, Setting}
use Rattle.cmd_wire.specs.Reading.{LooksBefore, SpellsTo}
use Rattle.cmd_wire.specs.Whole.{Answers, AnswersAll, ending_by}
use Rattle.cmd_all.specs.declared.exit.Exit.TheVariants.{Done, NoMemory, BadFrame, TooManyFrames}
use Rattle.cmd_all.specs.Exit.{exit_status, frames_exit}
use Rattle.cmd_all.specs.Run.{IsNotBegun, opening}
use Rattle.cmd_all.specs.Setup.{Around, Object}

abbrev pub IsWireStatus : ℕ → Type 0
IsWireStatus n = (result : Result (Ending FrameFault) Stop) × (n ≡ exit_status (frames_exit result))

-- the input was read to its end, or to what is refused in it
abbrev pub IsReadThrough : ℕ → Type 0
IsReadThrough n =
    (n ≡ exit_status Done) ⊎ ((n ≡ exit_status BadFrame) ⊎ (n ≡ exit_status TooManyFrames))

-- ---- if all objects are modelled

-- A run of frames was begun: by the steps that the bytes taken spell, which answers are written,
-- and the world after it.
pub record IsServed (setting : Setting) (status : ℕ) (start : RunState) (world : PlainWorld)
    (x y : SourceState) (p q : SinkState) : Type 0 where
  pub result : Result (Ending FrameFault) Stop
  pub is : status ≡ exit_status (frames_exit result)
  pub end : RunState
  pub world_is : world ≡ end.world
  pub answers : Answers setting result start end x y p q

-- a run of frames with modelled objects, by its status; or an allocation for the root or the slots failed, and nothing
-- happened
abbrev pub Serves : Setting → ℕ → List PlainSlot → List ℕ → Around → Object SourceState
    → Object SinkState → Type 0
Serves setting status slots root world input output =
    IsServed setting status (opening slots root world.old) world.new input.old input.new output.old
    output.new
    ⊎ ((status ≡ exit_status NoMemory) × IsNotBegun world input output)

-- the run ended so: all steps that the bytes taken spell are answered, and the implicit ends after them
pub record IsAnswered (setting : Setting) (ending : Ending FrameFault) (start : RunState)
    (world : PlainWorld) (x y : SourceState) (p q : SinkState) : Type 0 where
  pub end : RunState
  pub world_is : world ≡ end.world
  pub all : AnswersAll setting ending start end x y p q

-- with status 0, 5, 13 and 14 it ended as that status says
abbrev pub AnswersBy : Setting → ℕ → RunState → PlainWorld → SourceState → SourceState → SinkState
    → SinkState → Type 0
AnswersBy setting status start world x y p q =
    (ending : Ending FrameFault) → status ≡ exit_status (frames_exit (Ok ending))
    → IsAnswered setting ending start world x y p q

-- ---- if only the source is modelled

-- What was taken, with at most one read more than it has bytes. With status 0, 5, 13 and 14 it is the frames of steps,
-- at most 65,536, and a rest after them by which the run ended. A run that wasn't begun because an allocation failed
-- took nothing.
pub record ReadsFramesBy (status : ℕ) (x y : SourceState) : Type 0 where
  pub taken : List ℕ
  pub source : x.left ≡ taken ++ y.left
  pub reads : y.calls ≤ x.calls + length taken + 1
  pub ends : y.reads_at_end ≤ x.reads_at_end + 1
  pub by : (ending : Ending FrameFault) → status ≡ exit_status (frames_exit (Ok ending))
      → SpellsTo ending taken y.left
  pub looks : LooksBefore taken

-- If the whole input spells these steps, followed by this, and nothing failed, the status is the
-- one for what follows, or out of memory.
abbrev pub WireCompletes : ℕ → List ℕ → Type 0 → Type 0 → Type 0
WireCompletes status input read_failed write_failed =
    (steps : List Step) (rest : List ℕ) (fault : Option FrameFault) → AreBytes input
    → Spells input true steps rest fault → (read_failed → ⊥) → (write_failed → ⊥)
    → (status ≡ exit_status (frames_exit (Ok (ending_by fault))))
    ⊎ (status ≡ exit_status NoMemory)
