-- What contracts see of an item that is served and of a line that is applied, with real objects too (this project's
-- own).
use Rattle.std.specs.Prelude.{◌≡◌, ◌<◌, ℕ, List, Option, None, Result, Ok, OnOk, IsTrue}
use Rattle.pam_base.specs.declared.code.Code.{Code}
use Rattle.pam_outside.specs.Counts.{RisesIf}
use Rattle.pam_outside.specs.Streams.{SinkState}
use Rattle.report_step.specs.dispatch_core.specs.Lines.{names_of}
use Rattle.report_step.specs.pam_room.specs.Module.{notes_of}
use Rattle.script_lang.specs.declared.line.Line.{Line}
use Rattle.record_reader.specs.declared.ending.Stop.{Stop}
use Rattle.record_reader.specs.Object.{Object}
use Rattle.record_reader.specs.Run.{ItemFails, ItemStep}
use Rattle.record_reader.specs.Turns.{ServesItem, has_write_fault}
use Rattle.cmd_run.specs.Asked.{Asking, IsEnd, IsEndLine}
use Rattle.cmd_run.specs.Events.{LineMoves, MovesBy}
use Rattle.cmd_run.specs.Made.{ReportsCalls}
use Rattle.cmd_run.specs.Reading.{ReadsItem, WritesSome}
use Rattle.cmd_run.specs.Seen.{AllTell, SessionSeen, Went, setting_at, state}
use Rattle.cmd_run.specs.Serve.{AppliesLine}
use Rattle.cmd_run.specs.State.{RunState, Setting}
use Rattle.cmd_run.specs.Time.{Moments, Timing}

-- a line, at the time of the world's clock
pub record Applies (wrapped : List ℕ → List ℕ) (line : Line) (result : Result (Unit {0}) Stop)
    (old new : SessionSeen) (output : Object SinkState) : Type 0 where
  pub told : (moments : Moments) → (delay : Code → ℕ → ℕ) → old.gives delay → AllTell old
      → IsTrue output.tells
      → AppliesLine wrapped (setting_at moments old delay) line result (state old) (state new)
      output.old output.new
  pub went : Went (IsEndLine line) old new
  pub moves : OnOk result (LineMoves (notes_of old.players) old.slots line
      old.world.process.ledger new.world.process.ledger new.slots)
  pub writes : IsTrue output.tells → WritesSome result output.old output.new
  pub made : IsTrue output.tells → ReportsCalls wrapped (names_of old.players) result old.slots
      new.slots output.old output.new
  pub faults : RisesIf (has_write_fault result) output.faults_before output.faults_after
  pub sink_tells : output.tells_after ≡ output.tells

-- an item that follows n others, at the time of day if that is known
module _ {Kind : Type 0} (asked : Asking Kind) (wrapped : List ℕ → List ℕ)
    (step : Setting → ItemStep RunState Kind) (fails : Setting → ItemFails RunState)
    (read_step : ItemStep (Unit {0}) Kind) where
  pub record Serves (time : Timing) (result : Result (Option Kind) Stop) (n : ℕ) (item : List ℕ)
      (old new : SessionSeen) (output : Object SinkState) : Type 0 where
    pub told : IsTrue time.tells → (delay : Code → ℕ → ℕ) → old.gives delay → AllTell old
        → IsTrue output.tells → (let setting = setting_at time.moments old delay in
        ServesItem (step setting) (fails setting) result n item (state old) (state new) output.old
        output.new)
    pub went : Went (IsEnd (asked n item)) old new
    pub moves : result ≡ Ok None → MovesBy (notes_of old.players) old.slots (asked n item)
        old.world.process.ledger new.world.process.ledger new.slots
    pub few : result ≡ Ok None → n < 65536
    pub accepted : result ≡ Ok None → (line : Line) × (asked n item ≡ Ok line)
    pub reads : ReadsItem read_step result n item
    pub writes : IsTrue output.tells → WritesSome result output.old output.new
    pub made : IsTrue output.tells → ReportsCalls wrapped (names_of old.players) result old.slots
        new.slots output.old output.new
    pub faults : RisesIf (has_write_fault result) output.faults_before output.faults_after
    pub sink_tells : output.tells_after ≡ output.tells
