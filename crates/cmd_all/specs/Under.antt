-- A run of a stream under a root, whatever its items are (this project's own).
use Rattle.std.specs.Prelude.{◌≡◌, ◌⊎◌, ℕ, List, [], Some, Result, Ok, Err, IfOk, IsTrue}
use Rattle.data_cleanup.specs.Modelled.{ModelsEvents}
use Rattle.pam_outside.specs.Counts.{RisesIf, Rose}
use Rattle.pam_outside.specs.Streams.{SourceState, SinkState}
use Rattle.pam_room.specs.Module.{notes_of}
use Rattle.pam_library.specs.Slots.{handle_limit, lists_of}
use Rattle.record_reader.specs.declared.ending.Ending.{Ending}
use Rattle.record_reader.specs.declared.ending.Stop.{Stop}
use Rattle.record_reader.specs.declared.ending.Stop.TheVariants.{NoMemory}
use Rattle.record_reader.specs.Object.{Object}
use Rattle.record_reader.specs.Turns.{has_read_fault, has_write_fault}
use Rattle.cmd_run.specs.Reading.{WritesScript}
use Rattle.cmd_run.specs.Run.{RunComplete, RunEnd, RunRead, RunTold}
use Rattle.cmd_run.specs.State.{RunState, Setting}
use Rattle.cmd_all.specs.Setup.{Around, IfAllTold, Setup}
use Rattle.cmd_all.specs.CleanedUp.{IsCleanedUp}
use Rattle.cmd_all.specs.Run.{IsNotBegun, opening}

-- what a protocol says of its runs
pub record StreamRuns (Kind : Type 0) : Type 1 where
  pub runs : RunTold Kind
  pub reads : RunRead Kind
  pub completes : RunComplete Kind
  pub is_end : RunEnd

abbrev pub stream_runs : {Kind : Type 0} → RunTold Kind → RunRead Kind → RunComplete Kind → RunEnd
    → StreamRuns Kind
stream_runs runs reads completes is_end = record {
  runs = runs;
  reads = reads;
  completes = completes;
  is_end = is_end;
}

-- the run was begun: what holds for it, and the world after it; before it no data were set and
-- nothing was ended
pub record IsBegunSo {Kind : Type 0} (runs_so : RunTold Kind) (setting : Setting)
    (result : Result (Ending Kind) Stop) (start : RunState) (around : Around)
    (input : Object SourceState) (output : Object SinkState) : Type 0 where
  pub end : RunState
  pub world_is : around.new ≡ end.world
  pub runs : runs_so setting result start end input.old input.new output.old output.new
  pub none_yet : ModelsEvents (notes_of setting.players) handle_limit start.world.process.ledger
      (lists_of start.slots) []

-- the run was begun, or an allocation for the root or the slots failed, and nothing happened
abbrev pub RunsOrNot : {Kind : Type 0} → RunTold Kind → Setting → Result (Ending Kind) Stop
    → RunState → Around → Object SourceState → Object SinkState → Type 0
RunsOrNot runs_so setting result start world input output =
    IsBegunSo runs_so setting result start world input output
    ⊎ ((result ≡ Err NoMemory) × IsNotBegun world input output)

abbrev pub ReadsOrNot : {Kind : Type 0} → RunRead Kind → Result (Ending Kind) Stop → SourceState
    → SourceState → Type 0
ReadsOrNot reads_so result x y = reads_so result x y ⊎ ((result ≡ Err NoMemory) × (y ≡ x))

pub record RunsUnder {Kind : Type 0} (stream : StreamRuns Kind) (root : List ℕ)
    (result : Result (Ending Kind) Stop) (setup : Setup) (world : Around)
    (input : Object SourceState) (output : Object SinkState) : Type 0 where
  pub told : IfAllTold setup world input output (λ setting. RunsOrNot stream.runs setting result
      (opening setup.slots root world.old) world input output)
  pub complete : IsTrue input.tells → stream.completes result input.old.left
      (Rose input.faults_before input.faults_after) (Rose output.faults_before output.faults_after)
  pub reads : IsTrue input.tells → ReadsOrNot stream.reads result input.old input.new
  pub writes : IsTrue output.tells → WritesScript output.old output.new
  pub source_faults : IfOk result (λ (ending : Ending Kind). RisesIf (has_read_fault (Ok (Some ending)))
      input.faults_before input.faults_after)
  pub sink_faults : RisesIf (has_write_fault result) output.faults_before output.faults_after
  pub source_tells : input.tells_after ≡ input.tells
  pub sink_tells : output.tells_after ≡ output.tells
  pub world_tells : world.tells_after ≡ world.tells
  -- with real objects too: every module data set was cleaned up exactly once, with its due status
  pub cleaned_up : IsCleanedUp (stream.is_end input.tells input.old.left) (notes_of setup.players)
      world.new.process.ledger
