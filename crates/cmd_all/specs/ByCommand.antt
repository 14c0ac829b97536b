-- What the program promises for each command: a record for each, about what its objects hold before
-- and after it (this project's own).
use Rattle.std.specs.Prelude.{◌≡◌, ◌≢◌, ◌⊎◌, ◌≤◌, ◌<◌, ◌^◌, ◌&&◌, ℕ, Bool, List, [], IsTrue, Option, Some, None, Result}
use Rattle.pam_base.specs.declared.fault.ScriptKind.{ScriptKind}
use Rattle.record_reader.specs.declared.ending.Ending.{Ending}
use Rattle.record_reader.specs.declared.ending.Stop.{Stop}
use Rattle.cmd_run.specs.Made.{ReportsRun}
use Rattle.cmd_run.specs.Script.{as_it_is}
use Rattle.cmd_run.specs.Whole.{script_last}
use Rattle.cmd_wire.specs.frame_stream.specs.declared.fault.FrameFault.{FrameFault}
use Rattle.cmd_wire.specs.pam_wire.specs.Frame.{answer_of}
use Rattle.cmd_wire.specs.Answered.{nothing_last}
use Rattle.pam_outside.specs.Counts.{Rose}
use Rattle.pam_outside.specs.Streams.{SourceState, SinkState}
use Rattle.record_reader.specs.Written.{WritesText}
use Rattle.cmd_check.specs.Check.{check_of}
use Rattle.cmd_generate.specs.service_load.specs.Loading.{OnlyCalls}
use Rattle.cmd_run.specs.Reading.{WritesScript}
use Rattle.cmd_login.specs.Login.{TriesLogin}
use Rattle.cmd_login.specs.Reported.{possible_calls}
use Rattle.cmd_login.specs.Told.{exact_calls}
use Rattle.cmd_tally.specs.Tally.{tally_of}
use Rattle.cmd_audit.specs.Audit.{audit_of}
use Rattle.cmd_audit.specs.Transcript.{Takes}
use Rattle.cmd_all.specs.declared.exit.Exit.TheVariants.{Done, Usage, ConfigRefused, ReadFault, WriteFault, LineRefused}
pub use Rattle.cmd_all.specs.Setup.{Around, IsReady, Object, Setup, object_of, setting_with}
use Rattle.cmd_all.specs.Setup.{IfAllTold, IfTold}
use Rattle.cmd_all.specs.Audit.{AuditsBy, IsAuditStatus, ReadsAudited}
use Rattle.cmd_all.specs.Command.{Command, runs, audits, wires}
use Rattle.cmd_all.specs.Exit.{exit_status, frames_exit, script_exit}
use Rattle.cmd_all.specs.Generate.{GeneratesBy, IsGenerateStatus, at_its_clock}
use Rattle.cmd_all.specs.Login.{IsLoginStatus, LogsInBy}
use Rattle.cmd_all.specs.Run.{Completes, HasRefused, IsAccepted, IsDone, IsRefused, IsStatus, IsUnread, ReadsBy, Runs, opening}
use Rattle.cmd_all.specs.Status.{CallsOnce, ChecksBy, CountsUnread, FindsBy, FindsTally, IsCheckStatus, IsTallyStatus, TalliesBy, WritesUsage}
use Rattle.cmd_all.specs.Wire.{AnswersBy, IsReadThrough, IsWireStatus, ReadsFramesBy, Serves, WireCompletes}

-- ---- the reports of a run

-- What was written is the reports of calls that the library made, one after another, whatever the other objects are: the
-- code of a stack call, and what is held after it, are those to which the lines lead that its report lists.
pub record ReportsScript (status : ℕ) (setup : Setup) (p q : SinkState) : Type 0 where
  pub result : Result (Ending ScriptKind) Stop
  pub is : status ≡ exit_status (script_exit result)
  pub reports : ReportsRun as_it_is script_last setup.players result setup.slots p q

pub record ReportsFrames (status : ℕ) (setup : Setup) (p q : SinkState) : Type 0 where
  pub result : Result (Ending FrameFault) Stop
  pub is : status ≡ exit_status (frames_exit result)
  pub reports : ReportsRun answer_of nothing_last setup.players result setup.slots p q

-- ---- run ROOT

pub record RunsSo (root : List ℕ) (status : ℕ) (setup : Setup) (world : Around)
    (input : Object SourceState) (output : Object SinkState) : Type 0 where
  -- If all objects are modelled: with status 0 the whole script was read, its report is written, and the world is the one
  -- after it.
  pub done : IfAllTold setup world input output (λ setting. status ≡ exit_status Done
      → IsDone setting (opening setup.slots root world.old) world.new input.old input.new output.old
      output.new)
  -- With status 7 the whole script is refused for the line that the report ends with. At most a buffer was read with
  -- that line: the bytes read before it hold no line that is refused.
  pub refused : IfAllTold setup world input output (λ setting. status ≡ exit_status LineRefused
      → IsRefused setting (opening setup.slots root world.old) world.new input.old input.new
      output.old output.new)
  -- With status 5 the lines that were completely read are reported.
  pub unread : IfAllTold setup world input output (λ setting. status ≡ exit_status ReadFault
      → IsUnread setting (opening setup.slots root world.old) world.new input.old input.new
      output.old output.new)
  -- With any status, including 4 and 6: what was read and written, how often, and the world after
  -- it.
  pub told : IfAllTold setup world input output (λ setting. Runs setting status setup.slots root
      world input output)
  pub statuses : IsStatus status
  -- If only the source is modelled: the run stops early only if an allocation, a read or a write fails; there was at
  -- most one read more than bytes were read; and what the status says about the script's bytes. If only the sink is:
  -- there was at most one write more than bytes were written.
  pub complete : IsTrue input.tells → Completes status input.old.left
      (Rose input.faults_before input.faults_after) (Rose output.faults_before output.faults_after)
  pub reads : IsTrue input.tells → ReadsBy status input.old input.new
  pub accepted : IsTrue input.tells → status ≡ exit_status Done
      → IsAccepted input.old.left input.new.left
  pub has_refused : IsTrue input.tells → status ≡ exit_status LineRefused
      → HasRefused input.old.left
  pub writes : IsTrue output.tells → WritesScript output.old output.new
  pub reports : IsTrue output.tells → ReportsScript status setup output.old output.new

-- ---- check ROOT SERVICE

pub record ChecksSo (root service : List ℕ) (status : ℕ) (world : Around)
    (output : Object SinkState) : Type 0 where
  -- If output and files are modelled, the configuration is written, or its first fault.
  pub checked : IsTrue output.tells → IsTrue world.files.tells
      → ChecksBy status (check_of world.files.old root service) output.old output.new
      world.files.new
  -- If only the files are modelled, the status is that of what was found; if only the sink is: at most one write more
  -- than bytes were written.
  pub check_found : IsTrue world.files.tells
      → FindsBy status (check_of world.files.old root service) world.files.new
  pub check_writes : IsTrue output.tells → WritesText output.old output.new
  pub check_statuses : IsCheckStatus status
  pub check_stays : world.only_files
  pub check_calls : IsTrue world.files.tells → OnlyCalls world.files.old world.files.new

-- ---- login ROOT SERVICE [USER]

pub record LogsInSo (root service : List ℕ) (user : Option (List ℕ)) (status : ℕ) (setup : Setup)
    (world : Around) (output : Object SinkState) : Type 0 where
  -- If all objects are modelled: its calls are exactly the library's, each at the time of day of its place, what is
  -- written is their lines, and the world is the one after them.
  pub logged_in : IfTold setup world output (λ setting. LogsInBy (TriesLogin service user)
      (exact_calls setting) setup status root world output)
  -- If only the sink is: the same of calls that the library can make, whatever the other objects are.
  pub login_shows : IsTrue output.tells → LogsInBy (TriesLogin service user) possible_calls setup
      status root world output
  pub login_statuses : IsLoginStatus status

-- ---- generate SEED LINES

pub record GeneratesSo (seed lines : ℕ) (status : ℕ) (setup : Setup) (world : Around)
    (output : Object SinkState) : Type 0 where
  -- If all objects are modelled: the line of the result is written, or a prefix of it, and the world is the one after
  -- it.
  pub generated : IfTold setup world output (λ setting. GeneratesBy (at_its_clock setting) status
      setup.slots seed lines world output)
  pub generate_writes : IsTrue output.tells → WritesScript output.old output.new
  pub generate_statuses : IsGenerateStatus status

-- ---- tally ROOT USER

pub record TalliesSo (root user : List ℕ) (status : ℕ) (world : Around)
    (output : Object SinkState) : Type 0 where
  -- If output and files are modelled, the user's failures are listed, or the reason why not is written.
  pub tallied : IsTrue output.tells → IsTrue world.files.tells
      → TalliesBy status (tally_of world.files.old root user) output.old output.new
  -- If only the files are modelled, the status is that of what was found; if only the output is: at most one write more
  -- than bytes were written.
  pub tally_found : IsTrue world.files.tells → FindsTally status (tally_of world.files.old root user)
  pub tally_writes : IsTrue output.tells → WritesText output.old output.new
  pub tally_statuses : IsTallyStatus status
  pub tally_stays : world.only_files
  pub tally_calls : IsTrue world.files.tells → CallsOnce status world.files.old world.files.new
  pub tally_faults : CountsUnread status world.files.faults_before world.files.faults_after

-- ---- audit ROOT SERVICE

pub record AuditsSo (root service : List ℕ) (status : ℕ) (world : Around)
    (input : Object SourceState) (output : Object SinkState) : Type 0 where
  -- If input, output and files are modelled, the verdict on the transcript is written, or why there is none. With
  -- status 3 the transcript isn't read.
  pub audited : IsTrue input.tells → IsTrue output.tells → IsTrue world.files.tells
      → AuditsBy status (audit_of world.files.old root service) input.old.left output.old output.new
  pub audit_statuses : IsAuditStatus status
  pub audit_stays : world.only_files
  pub audit_calls : IsTrue world.files.tells → OnlyCalls world.files.old world.files.new
  -- If only the source is modelled: what was taken, and by the status how far it was read, to its end or past the most
  -- bytes that a transcript may have; if only the sink is: at most one write more than bytes were written.
  pub audit_takes : IsTrue input.tells → Takes input.old input.new
  pub audit_reads : IsTrue input.tells → ReadsAudited status input.old.left input.new.left
  pub audit_writes : IsTrue output.tells → WritesText output.old output.new
  pub audit_refused : status ≡ exit_status ConfigRefused → input.is_kept
  pub audit_no_read_fault : status ≢ exit_status ReadFault
      → input.faults_after ≡ input.faults_before

-- ---- wire ROOT

pub record WiresSo (root : List ℕ) (status : ℕ) (setup : Setup) (world : Around)
    (input : Object SourceState) (output : Object SinkState) : Type 0 where
  -- If all objects are modelled: with status 0, 5, 13 and 14 all steps in the bytes that were read are answered, and the
  -- implicit pam_end calls, and the world is the one after them. With 4 and 6 it is a prefix of that.
  pub wire_answered : IfAllTold setup world input output (λ setting. AnswersBy setting status
      (opening setup.slots root world.old) world.new input.old input.new output.old output.new)
  pub wire_told : IfAllTold setup world input output (λ setting. Serves setting status setup.slots
      root world input output)
  pub wire_statuses : IsWireStatus status
  -- If only the source is modelled: how the bytes that were read end the run, and that it stops early only if an
  -- allocation, a read or a write fails. If only the sink is: how often it was written.
  pub wire_reads : IsTrue input.tells → ReadsFramesBy status input.old input.new
  pub wire_complete : IsTrue input.tells → WireCompletes status input.old.left
      (Rose input.faults_before input.faults_after) (Rose output.faults_before output.faults_after)
  pub wire_writes : IsTrue output.tells → WritesScript output.old output.new
  pub wire_reports : IsTrue output.tells → ReportsFrames status setup output.old output.new
  pub wire_no_read_fault : IsReadThrough status → input.faults_after ≡ input.faults_before

-- ---- no command

pub record ShowsUsage (status : ℕ) (world : Around) (output : Object SinkState) : Type 0 where
  pub usage : IsTrue output.tells → WritesUsage status output.old output.new
  pub usage_status : (status ≡ exit_status Usage) ⊎ (status ≡ exit_status WriteFault)
  pub usage_stays : world.is_kept

-- ---- any command

-- run, audit and wire read the input
abbrev pub ReadsNone : Option Command → Type 0
ReadsNone (Some (runs root)) = ⊥
ReadsNone (Some (audits root service)) = ⊥
ReadsNone (Some (wires root)) = ⊥
ReadsNone command = Unit {0}

-- only a usage error has the status 2, and the other commands leave the input as it was
pub record GoesBy (command : Option Command) (status : ℕ) (input : Object SourceState) : Type 0 where
  pub words_only : status ≡ exit_status Usage → command ≡ None
  pub input_stays : ReadsNone command → input.is_kept

-- The causes of a status, with real objects too. What is modelled before the run is modelled after it.
pub record ReadCauses (status : ℕ) (input : Object SourceState) : Type 0 where
  pub read_fault : status ≡ exit_status ReadFault → Rose input.faults_before input.faults_after
  pub no_read_fault : (status ≡ exit_status Done) ⊎ (status ≡ exit_status LineRefused)
      → input.faults_after ≡ input.faults_before
  pub source_tells : input.tells_after ≡ input.tells

pub record WriteCauses (status : ℕ) (world : Around) (output : Object SinkState) : Type 0 where
  pub write_fault : status ≡ exit_status WriteFault → Rose output.faults_before output.faults_after
  pub no_write_fault : status ≢ exit_status WriteFault → output.faults_after ≡ output.faults_before
  pub sink_tells : output.tells_after ≡ output.tells
  pub world_tells : world.tells_after ≡ world.tells
