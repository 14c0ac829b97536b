-- What is known of any run, stated for the run of a script.
use Rattle.std.proofs.Common.{◌≡◌, ℕ, inl, inr, List, Option, Some, None, Result, Ok, Err, refl, sym, ◌∙◌}
use Rattle.pam_base.specs.declared.code.Code.{Code}
use Rattle.pam_base.specs.declared.fault.ScriptKind.{ScriptKind}
use Rattle.pam_outside.specs.Counts.{RisesIf, Rose}
use Rattle.pam_outside.specs.Streams.{SourceState, SinkState}
use Rattle.report_step.specs.pam_library.specs.Slots.{lists_of}
use Rattle.record_reader.specs.Looked.{looked}
use Rattle.record_reader.specs.LineRun.{step_at}
use Rattle.record_reader.specs.LineTurns.{Ending}
use Rattle.record_reader.specs.declared.ending.Ending.TheVariants.{Done, ReadFault, Refused}
use Rattle.record_reader.specs.declared.ending.Stop.{Stop}
use Rattle.record_reader.specs.declared.ending.Stop.TheVariants.{NoMemory, WriteFault}
use Rattle.record_reader.specs.Turns.{has_read_fault, has_write_fault}
use Rattle.cmd_run.specs.Endings.{ending_status, stop_status}
use Rattle.cmd_run.specs.Ends.{IsEndOfRun}
use Rattle.cmd_run.specs.Reading.{ReadsAll, ReadsScript, line_read}
use Rattle.cmd_run.specs.Run.{CompletesSo, EndsSo, ReadsSo, RunsOrStops}
use Rattle.cmd_run.specs.Script.{as_it_is, line_asked, script_step}
use Rattle.cmd_run.specs.State.{Setting, RunState}
use Rattle.cmd_run.specs.Step.{Fails}
use Rattle.cmd_run.specs.Whole.{Completes, RunsScript, script_last}
use Rattle.cmd_run.proofs.ItemRequestFacts.{AllLooked, by_ending, by_line, by_stop}
use Rattle.cmd_run.proofs.StreamBytesFacts.{script_left, script_read}
use Rattle.cmd_run.proofs.StoppedRunFacts.{cut_after, cut_short}
use Rattle.cmd_run.proofs.RunEventFacts.{CallsAddEvents, EndStands, run_stands}
use Rattle.cmd_run.proofs.Wholly.{ended_run, stopped_after, stopped_lines}

-- if all objects are modelled
pub runs_script : AllLooked → ((setting : Setting) → CallsAddEvents setting) → ((setting : Setting) (code : Code) → EndStands setting.players code)
    → (setting : Setting) (result : Result Ending Stop) (start end : RunState) (x y : SourceState) (p q : SinkState)
    → RunsOrStops looked line_asked as_it_is script_last script_step Fails setting result start end x y p q → RunsScript setting result start end x y p q
runs_script all calls ends setting (Ok ending) start end x y p q r =
    ended_run setting start x y p r.between ending r.items r.last end q r.serves.runs tt r.ends
    (λ closed. run_stands all setting (ending_status ending) (calls setting) (ends setting (ending_status ending)) r.items start r.last end x.left _ p r.between
    r.serves.served.1 r.few closed)
runs_script all calls ends setting (Err stop) start end x y p q (inl r) =
    stopped_lines setting start x y p q all stop r.items r.last end r.serves.runs r.stops.closed
    (λ text written. cut_short setting all (calls setting) (stop_status stop) r.items start r.last end x.left text p q r.serves.served r.stops.closes written)
runs_script all calls ends setting (Err stop) start end x y p q (inr r) =
    stopped_after setting start x y p r.between r.ending r.items r.last r.middle q r.serves.runs stop end r.ends r.stops.closed
    (cut_after setting all (calls setting) (ending_status r.ending) (stop_status stop) r.items start r.last end r.middle.world.process.ledger
    (lists_of r.middle.slots) x.left p r.between
    r.serves.served r.closes r.stops.closes)

-- if only the source is
pub reads_script : ReadsSo looked (step_at line_read) ReadsScript
reads_script = record { whole = script_read; left = script_left }

-- no run stops without a cause
ended : (ending : Ending) (m a b c d : ℕ) (x y : SourceState) → ReadsAll looked (step_at line_read) (Ok ending) m x y
    → RisesIf (has_read_fault (Ok (Some ending))) a b
    → Completes (Ok ending) x.left (Rose a b) (Rose c d)
ended Done m a b c d x y r read = λ accepted no_read no_write. inl refl
ended ReadFault m a b c d x y r read = λ accepted no_read no_write. absurd (no_read read)
ended (Refused kind) m a b c d x y r read = λ accepted no_read no_write.
    let none : ◌≡◌ {A = Option ScriptKind} (Some kind) None = sym (script_read (Ok (Refused kind)) m x y r).by ∙ accepted in
    absurd cc

stopped : (stop : Stop) (input : List ℕ) (a b c d : ℕ) → RisesIf (has_write_fault {T = Ending} (Err stop)) c d
    → Completes (Err stop) input (Rose a b) (Rose c d)
stopped NoMemory input a b c d written = λ accepted no_read no_write. inr refl
stopped WriteFault input a b c d written = λ accepted no_read no_write. absurd (no_write written)

pub completes_script : CompletesSo looked (step_at line_read) Completes
completes_script = record { ended = ended; stopped = stopped }

-- which ends it makes
pub ends_script : AllLooked → EndsSo looked line_asked IsEndOfRun
ends_script all = record {
  by_item = by_line all;
  by_ending = λ tells input ending number status is. by_ending tells input ending (ending_status ending) refl number status is;
  by_stop = λ tells input stop number status is. by_stop tells input stop (stop_status stop) refl number status is;
}
