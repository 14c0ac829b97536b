-- A run of a script under a root, by the status with which the program ends (this project's own).
use Rattle.std.specs.Prelude.{◌≡◌, ◌⊎◌, ℕ, ◌≤◌, Bool, true, false, List, [], ◌++◌, length, Some, None, Result}
use Rattle.data_cleanup.specs.Modelled.{ModelsEvents}
use Rattle.pam_base.specs.declared.fault.ScriptKind.{ScriptKind}
use Rattle.pam_outside.specs.Streams.{SourceState, SinkState}
use Rattle.pam_room.specs.Module.{notes_of}
use Rattle.pam_room.specs.State.{PlainWorld}
use Rattle.pam_library.specs.Slots.{PlainSlot, handle_limit, lists_of, slot_at}
use Rattle.record_reader.specs.LineTurns.{Ending}
use Rattle.record_reader.specs.declared.ending.Ending.TheVariants.{Done, ReadFault, Refused}
use Rattle.record_reader.specs.declared.ending.Stop.{Stop}
use Rattle.record_reader.specs.LineRun.{Run, run_of}
use Rattle.data_cleanup.specs.Due.{Event}
use Rattle.cmd_run.specs.Events.{AreDue, run_events}
use Rattle.cmd_run.specs.Reading.{ReadsScript, refused_in}
use Rattle.cmd_run.specs.SideBySide.{ComesAlone, TellsSteps}
use Rattle.cmd_run.specs.State.{Setting, RunState, state_of}
use Rattle.cmd_run.specs.Step.{line_step}
use Rattle.cmd_run.specs.Closings.{all_closed}
use Rattle.cmd_run.specs.Whole.{RunsScript, ending_status, last_words}
use Rattle.cmd_all.specs.declared.exit.Exit.TheVariants as exits
use Rattle.cmd_all.specs.Exit.{exit_status, script_exit}
use Rattle.cmd_all.specs.Setup.{Around, Object}

-- the world under a root, at the time 0 and with the random word 0
abbrev pub under_root : List ℕ → PlainWorld → PlainWorld
under_root root w = record w {
  clock = record w.clock { moment = 0; word = 0 };
  process = record w.process { root = root };
}

-- the world at that time, with that word
pub record IsReset (old new : PlainWorld) : Type 0 where
  pub world_is : new ≡ record old { clock = record old.clock { moment = 0; word = 0 } }

-- before the first line: sixteen closed slots
abbrev pub opening : List PlainSlot → List ℕ → PlainWorld → RunState
opening slots root w = state_of slots (under_root root w)

-- the result of the lines among some bytes
abbrev pub run_over : Setting → RunState → List ℕ → Bool → Run RunState
run_over setting start bytes ended = run_of (line_step setting) 0 start bytes ended

-- the report of a run that ends so: its lines', the implicit ends, and the last line; and the world after it
abbrev pub report_of : Setting → Ending → Run RunState → List ℕ
report_of setting ending r = r.text ++ last_words setting.players ending r.items r.last

abbrev pub world_after : Setting → Ending → Run RunState → PlainWorld
world_after setting ending r = (all_closed setting.players (ending_status ending) r.last).world

-- the data sets and ends of a run that ends so: those of the lines that were applied, and of the implicit ends after
-- them
abbrev pub events_in : Setting → Ending → RunState → List ℕ → Run RunState → List Event
events_in setting ending start script r =
    run_events setting (ending_status ending) start script r.items r.last

-- The report of this run is written whole, and the world is the one after it. The cleanup records are those that the
-- sets and ends of the run make due.
pub record IsReported (setting : Setting) (ending : Ending) (start : RunState) (script : List ℕ)
    (r : Run RunState) (world : PlainWorld) (p q : SinkState) : Type 0 where
  pub written : q.written ≡ p.written ++ report_of setting ending r
  pub world_is : world ≡ world_after setting ending r
  pub are_due : AreDue (notes_of setting.players) (events_in setting ending start script r)
      world.process.ledger

-- status 0: no line of the whole script is refused, and it was read to its end
pub record IsDone (setting : Setting) (start : RunState) (world : PlainWorld) (x y : SourceState)
    (p q : SinkState) : Type 0 where
  pub accepted : (run_over setting start x.left true).refused ≡ None
  pub reported : IsReported setting Done start x.left (run_over setting start x.left true) world p q
  pub read_out : y.left ≡ []

-- Status 7: a line of the whole script is refused, for this reason. The bytes taken before the last
-- read, which takes at most 512, hold no line that is refused.
pub record IsRefused (setting : Setting) (start : RunState) (world : PlainWorld) (x y : SourceState)
    (p q : SinkState) : Type 0 where
  pub kind : ScriptKind
  pub refused : (run_over setting start x.left true).refused ≡ Some kind
  pub reported : IsReported setting (Refused kind) start x.left (run_over setting start x.left true)
      world p q
  pub early : List ℕ
  pub late : List ℕ
  pub taken : x.left ≡ early ++ late ++ y.left
  pub room : length late ≤ 512
  pub not_before : (run_over setting start early false).refused ≡ None

-- status 5: the lines among the bytes taken are whole, and none is refused
pub record IsUnread (setting : Setting) (start : RunState) (world : PlainWorld) (x y : SourceState)
    (p q : SinkState) : Type 0 where
  pub taken : List ℕ
  pub source : x.left ≡ taken ++ y.left
  pub accepted : (run_over setting start taken false).refused ≡ None
  pub reported : IsReported setting ReadFault start x.left (run_over setting start taken false)
      world p q

-- ---- by any status

-- an allocation for the root or the slots failed, and nothing happened
pub record IsNotBegun (around : Around) (input : Object SourceState)
    (output : Object SinkState) : Type 0 where
  pub world : around.new ≡ around.old
  pub source : input.new ≡ input.old
  pub sink : output.new ≡ output.old

-- The lines among some bytes, number by number: the slot of each after them and the outcomes of its steps are those of
-- its own steps alone, each in the world before it; and what is reported of the lines is the report of these steps.
pub record NumbersAlone (setting : Setting) (start : RunState) (bytes : List ℕ)
    (ended : Bool) : Type 0 where
  pub alone : (number : ℕ) (slot : PlainSlot) → slot_at start.slots number ≡ Some slot
      → ComesAlone setting start bytes ended number slot
  pub steps : TellsSteps setting start bytes ended

-- a run was begun: what was taken and written, how often it was read and written, and the world
-- after it; before it no data were set and nothing was ended; and its lines do what the steps of
-- each number do alone
pub record IsBegun (setting : Setting) (status : ℕ) (start : RunState) (world : PlainWorld)
    (x y : SourceState) (p q : SinkState) : Type 0 where
  pub result : Result Ending Stop
  pub is : status ≡ exit_status (script_exit result)
  pub end : RunState
  pub world_is : world ≡ end.world
  pub runs : RunsScript setting result start end x y p q
  pub none_yet : ModelsEvents (notes_of setting.players) handle_limit start.world.process.ledger
      (lists_of start.slots) []
  pub side_by_side : (bytes : List ℕ) (ended : Bool) → NumbersAlone setting start bytes ended

-- a run with modelled objects, by its status
abbrev pub Runs : Setting → ℕ → List PlainSlot → List ℕ → Around → Object SourceState
    → Object SinkState → Type 0
Runs setting status slots root world input output =
    IsBegun setting status (opening slots root world.old) world.new input.old input.new output.old
    output.new
    ⊎ ((status ≡ exit_status exits.NoMemory) × IsNotBegun world input output)

-- if no line of a modelled script is refused and nothing failed, it is run, or out of memory
abbrev pub Completes : ℕ → List ℕ → Type 0 → Type 0 → Type 0
Completes status script read_failed write_failed =
    refused_in script true ≡ None → (read_failed → ⊥) → (write_failed → ⊥)
    → (status ≡ exit_status exits.Done) ⊎ (status ≡ exit_status exits.NoMemory)

abbrev pub IsStatus : ℕ → Type 0
IsStatus n = (result : Result Ending Stop) × (n ≡ exit_status (script_exit result))

-- ---- if only source or sink is modelled

-- How a run ends by the bytes of a modelled script, and how often that was read: a run that wasn't begun because an
-- allocation failed took nothing.
pub record ReadsBy (status : ℕ) (x y : SourceState) : Type 0 where
  pub result : Result Ending Stop
  pub is : status ≡ exit_status (script_exit result)
  pub reads : ReadsScript result x y

-- status 0 says that no line of the whole script is refused, which was read to its end; status 7
-- that one is
abbrev pub IsAccepted : List ℕ → List ℕ → Type 0
IsAccepted script left = (refused_in script true ≡ None) × (left ≡ [])

abbrev pub HasRefused : List ℕ → Type 0
HasRefused script = (kind : ScriptKind) × (refused_in script true ≡ Some kind)
