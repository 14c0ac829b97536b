-- What holds for each command, from what was proved about its run.
use Rattle.std.proofs.Common.{◌≡◌, ℕ, List, IsTrue, Option, Some, Result, Ok, Err, IfOk, sym, ◌∙◌, subst, subst₂, arith}
use Rattle.pam_base.specs.declared.fault.ScriptKind.{ScriptKind}
use Rattle.pam_outside.specs.Counts.{RisesIf, Rose}
use Rattle.pam_outside.specs.Streams.{SourceState, SinkState}
use Rattle.record_reader.specs.Turns.{has_read_fault, has_write_fault}
use Rattle.record_reader.specs.declared.ending.Ending.{Ending}
use Rattle.record_reader.specs.declared.ending.Ending.TheVariants.{Done, ReadFault, Refused}
use Rattle.record_reader.specs.declared.ending.Stop.{Stop}
use Rattle.record_reader.specs.declared.ending.Stop.TheVariants.{NoMemory, WriteFault}
use Rattle.cmd_run.specs.Reading.{WritesScript}
use Rattle.cmd_wire.specs.frame_stream.specs.declared.fault.FrameFault.{FrameFault}
use Rattle.cmd_all.specs.declared.exit.Exit.TheVariants as exits
use Rattle.cmd_all.specs.Exit.{audit_exit, check_exit, exit_status, frames_exit, generate_exit, login_exit, script_exit, tally_exit}
use Rattle.cmd_all.specs.ByCommand.{Around, AuditsSo, ChecksSo, GeneratesSo, GoesBy, LogsInSo, Object, ReadCauses, ReadsNone}
use Rattle.cmd_all.specs.ByCommand.{ReportsFrames, ReportsScript, RunsSo, Setup, TalliesSo, WiresSo, setting_with}
use Rattle.cmd_check.specs.declared.finding.Checked.{Checked}
use Rattle.cmd_check.specs.declared.finding.Checked.TheVariants as founds
use Rattle.cmd_generate.specs.declared.generating.Generated.{Generated}
use Rattle.cmd_generate.specs.declared.generating.Generated.TheVariants as generations
use Rattle.cmd_login.specs.declared.attempt.Verdict.{Verdict}
use Rattle.cmd_login.specs.declared.attempt.Verdict.TheVariants as verdicts
use Rattle.cmd_tally.specs.declared.finding.Tallied.{Tallied}
use Rattle.cmd_tally.specs.declared.finding.Tallied.TheVariants as lists
use Rattle.cmd_wire.specs.frame_stream.specs.declared.fault.FrameFault.TheVariants.{BadFrame, TooManyFrames}
use Rattle.cmd_audit.specs.declared.finding.Audited.{Audited}
use Rattle.cmd_audit.specs.declared.finding.Audited.TheVariants as audits_found
use Rattle.cmd_all.specs.Generate.{IsGenerateStatus}
use Rattle.cmd_all.specs.Login.{IsLoginStatus}
use Rattle.cmd_all.specs.Setup.{IfAllTold}
use Rattle.cmd_all.specs.Status.{IsCheckStatus, IsTallyStatus}
use Rattle.cmd_all.specs.Command.{Command, runs, checks, logs_in, generates, tallies, audits, wires}
use Rattle.cmd_all.specs.Run.{Completes, IsStatus, ReadsBy, Runs}
use Rattle.cmd_all.specs.Wire.{IsReadThrough, IsWireStatus, ReadsFramesBy, Serves, WireCompletes}
use Rattle.cmd_all.proofs.Alone.{is_accepted, is_refused}
use Rattle.cmd_all.proofs.RunStatusFacts.{done_of, refused_of, unread_of}
use Rattle.cmd_all.proofs.WireStatusFacts.{answered}

-- ---- failures

module _ (status before now : ℕ) where
  pub run_read_fault : (result : Result (Ending ScriptKind) Stop) → status ≡ exit_status (script_exit result)
      → IfOk result (λ ending. RisesIf (has_read_fault (Ok (Some ending))) before now) → status ≡ exit_status exits.ReadFault → Rose before now
  run_read_fault (Ok Done) is rises five = absurd (omega (arith, is, five))
  run_read_fault (Ok ReadFault) is rises five = rises
  run_read_fault (Ok (Refused kind)) is rises five = absurd (omega (arith, is, five))
  run_read_fault (Err NoMemory) is rises five = absurd (omega (arith, is, five))
  run_read_fault (Err WriteFault) is rises five = absurd (omega (arith, is, five))

  pub run_write_fault : (result : Result (Ending ScriptKind) Stop) → status ≡ exit_status (script_exit result)
      → RisesIf (has_write_fault result) before now → status ≡ exit_status exits.WriteFault → Rose before now
  run_write_fault (Ok Done) is rises six = absurd (omega (arith, is, six))
  run_write_fault (Ok ReadFault) is rises six = absurd (omega (arith, is, six))
  run_write_fault (Ok (Refused kind)) is rises six = absurd (omega (arith, is, six))
  run_write_fault (Err NoMemory) is rises six = absurd (omega (arith, is, six))
  run_write_fault (Err WriteFault) is rises six = rises

module _ (root : List ℕ) (status : ℕ) (setup : Setup) (world : Around) (input : Object SourceState) (output : Object SinkState) where
  -- a run of a script
  pub runs_so : IfAllTold setup world input output (λ setting. Runs setting status setup.slots root world input output) → IsStatus status
      → (IsTrue input.tells → ReadsBy status input.old input.new)
      → (IsTrue input.tells → Completes status input.old.left (Rose input.faults_before input.faults_after) (Rose output.faults_before output.faults_after))
      → (IsTrue output.tells → WritesScript output.old output.new) → (IsTrue output.tells → ReportsScript status setup output.old output.new)
      → RunsSo root status setup world input output
  runs_so told known reads complete writes reports = record {
    done = λ number given source sink both. λ is.
        done_of (setting_with setup number) status setup.slots root world input output
        (told number given source sink both) is;
    refused = λ number given source sink both. λ is.
        refused_of (setting_with setup number) status setup.slots root world input output
        (told number given source sink both) is;
    unread = λ number given source sink both. λ is.
        unread_of (setting_with setup number) status setup.slots root world input output
        (told number given source sink both) is;
    told = told;
    statuses = known;
    complete = complete;
    reads = reads;
    accepted = λ source is. is_accepted status input.old input.new (reads source) is;
    has_refused = λ source is. is_refused status input.old input.new (reads source) is;
    writes = writes;
    reports = reports;
  }

  -- a run of frames
  pub wires_so : IfAllTold setup world input output (λ setting. Serves setting status setup.slots root world input output) → IsWireStatus status
      → (IsTrue input.tells → ReadsFramesBy status input.old input.new)
      → (IsTrue input.tells → WireCompletes status input.old.left (Rose input.faults_before input.faults_after) (Rose output.faults_before output.faults_after))
      → (IsTrue output.tells → WritesScript output.old output.new) → (IsTrue output.tells → ReportsFrames status setup output.old output.new)
      → (IsReadThrough status → input.faults_after ≡ input.faults_before)
      → WiresSo root status setup world input output
  wires_so told known reads complete writes reports through = record {
    wire_answered = λ number given source sink both.
        answered (setting_with setup number) status setup.slots root world input output
        (told number given source sink both);
    wire_told = told;
    wire_statuses = known;
    wire_reads = reads;
    wire_complete = complete;
    wire_writes = writes;
    wire_reports = reports;
    wire_no_read_fault = through;
  }

-- ---- statuses

module _ {A : Type 0} where
  -- if a command was found, the status isn't 2
  pub run_not_two : (result : Result (Ending ScriptKind) Stop) → exit_status (script_exit result) ≡ exit_status exits.Usage → A
  run_not_two (Ok Done) is = absurd (omega (arith, is))
  run_not_two (Ok ReadFault) is = absurd (omega (arith, is))
  run_not_two (Ok (Refused kind)) is = absurd (omega (arith, is))
  run_not_two (Err NoMemory) is = absurd (omega (arith, is))
  run_not_two (Err WriteFault) is = absurd (omega (arith, is))

  pub wire_not_two : (result : Result (Ending FrameFault) Stop) → exit_status (frames_exit result) ≡ exit_status exits.Usage → A
  wire_not_two (Ok Done) is = absurd (omega (arith, is))
  wire_not_two (Ok ReadFault) is = absurd (omega (arith, is))
  wire_not_two (Ok (Refused BadFrame)) is = absurd (omega (arith, is))
  wire_not_two (Ok (Refused TooManyFrames)) is = absurd (omega (arith, is))
  wire_not_two (Err NoMemory) is = absurd (omega (arith, is))
  wire_not_two (Err WriteFault) is = absurd (omega (arith, is))

  pub audit_not_two : (result : Result Audited Stop) → exit_status (audit_exit result) ≡ exit_status exits.Usage → A
  audit_not_two (Ok audits_found.Fits) is = absurd (omega (arith, is))
  audit_not_two (Ok audits_found.Differs) is = absurd (omega (arith, is))
  audit_not_two (Ok audits_found.Refused) is = absurd (omega (arith, is))
  audit_not_two (Ok audits_found.TooLong) is = absurd (omega (arith, is))
  audit_not_two (Ok audits_found.Unread) is = absurd (omega (arith, is))
  audit_not_two (Err NoMemory) is = absurd (omega (arith, is))
  audit_not_two (Err WriteFault) is = absurd (omega (arith, is))

-- the commands that read no input end neither with 2 nor with 5
abbrev pub IsOther : ℕ → Type 0
IsOther n = (n ≡ exit_status exits.Usage → ⊥) × (n ≡ exit_status exits.ReadFault → ⊥)

check_other : (result : Result Checked Stop) → IsOther (exit_status (check_exit result))
check_other (Ok founds.Configured) = (λ is. omega (arith, is), λ is. omega (arith, is))
check_other (Ok founds.Refused) = (λ is. omega (arith, is), λ is. omega (arith, is))
check_other (Err NoMemory) = (λ is. omega (arith, is), λ is. omega (arith, is))
check_other (Err WriteFault) = (λ is. omega (arith, is), λ is. omega (arith, is))

login_other : (result : Result Verdict Stop) → IsOther (exit_status (login_exit result))
login_other (Ok verdicts.Passed) = (λ is. omega (arith, is), λ is. omega (arith, is))
login_other (Ok verdicts.Refused) = (λ is. omega (arith, is), λ is. omega (arith, is))
login_other (Ok (verdicts.Denied code)) = (λ is. omega (arith, is), λ is. omega (arith, is))
login_other (Err NoMemory) = (λ is. omega (arith, is), λ is. omega (arith, is))
login_other (Err WriteFault) = (λ is. omega (arith, is), λ is. omega (arith, is))

generate_other : (result : Result Generated Stop) → IsOther (exit_status (generate_exit result))
generate_other (Ok generations.Written) = (λ is. omega (arith, is), λ is. omega (arith, is))
generate_other (Ok generations.Refused) = (λ is. omega (arith, is), λ is. omega (arith, is))
generate_other (Err NoMemory) = (λ is. omega (arith, is), λ is. omega (arith, is))
generate_other (Err WriteFault) = (λ is. omega (arith, is), λ is. omega (arith, is))

tally_other : (result : Result Tallied Stop) → IsOther (exit_status (tally_exit result))
tally_other (Ok lists.Listed) = (λ is. omega (arith, is), λ is. omega (arith, is))
tally_other (Ok lists.Damaged) = (λ is. omega (arith, is), λ is. omega (arith, is))
tally_other (Ok lists.Unread) = (λ is. omega (arith, is), λ is. omega (arith, is))
tally_other (Err NoMemory) = (λ is. omega (arith, is), λ is. omega (arith, is))
tally_other (Err WriteFault) = (λ is. omega (arith, is), λ is. omega (arith, is))

pub check_is_other : (n : ℕ) → IsCheckStatus n → IsOther n
check_is_other n known = subst IsOther (sym known.1) (check_other known.0)

pub login_is_other : (n : ℕ) → IsLoginStatus n → IsOther n
login_is_other n known = subst IsOther (sym known.1) (login_other known.0)

pub generate_is_other : (n : ℕ) → IsGenerateStatus n → IsOther n
generate_is_other n known = subst IsOther (sym known.1) (generate_other known.0)

pub tally_is_other : (n : ℕ) → IsTallyStatus n → IsOther n
tally_is_other n known = subst IsOther (sym known.1) (tally_other known.0)

module _ (status : ℕ) (input : Object SourceState) where
  -- the input wasn't read
  pub not_read : IsOther status → input.faults_after ≡ input.faults_before → input.tells_after ≡ input.tells → ReadCauses status input
  not_read other faults tells = record { read_fault = λ five. absurd (other.1 five); no_read_fault = λ is. faults; source_tells = tells }

  module _ (command found : Option Command) (is : found ≡ command) where
    pub goes_unread : IsOther status → input.is_kept → GoesBy command status input
    goes_unread other kept = record { words_only = λ two. absurd (other.0 two); input_stays = λ none. kept }

    pub goes_reading : (status ≡ exit_status exits.Usage → ⊥) → (ReadsNone found → ⊥) → GoesBy command status input
    goes_reading other reads = record { words_only = λ two. absurd (other two); input_stays = λ none. absurd (reads (subst ReadsNone (sym is) none)) }

-- ---- the command that was asked for is the one that was found

module _ (command : Option Command) (status : ℕ) (setup : Setup) (world : Around) (input : Object SourceState) (output : Object SinkState) where
  pub run_asked : (r root : List ℕ) → Some (runs r) ≡ command → command ≡ Some (runs root) → RunsSo r status setup world input output
      → RunsSo root status setup world input output
  run_asked r root is asked so =
      let e : Some (runs r) ≡ Some (runs root) = is ∙ asked in
      let same : r ≡ root = cc in
      subst (λ (x : List ℕ). RunsSo x status setup world input output) same so

  pub wire_asked : (r root : List ℕ) → Some (wires r) ≡ command → command ≡ Some (wires root) → WiresSo r status setup world input output
      → WiresSo root status setup world input output
  wire_asked r root is asked so =
      let e : Some (wires r) ≡ Some (wires root) = is ∙ asked in
      let same : r ≡ root = cc in
      subst (λ (x : List ℕ). WiresSo x status setup world input output) same so

module _ (command : Option Command) (status : ℕ) (world : Around) (input : Object SourceState) (output : Object SinkState) where
  pub audit_asked : (r s root service : List ℕ) → Some (audits r s) ≡ command → command ≡ Some (audits root service) → AuditsSo r s status world input output
      → AuditsSo root service status world input output
  audit_asked r s root service is asked so =
      let e : Some (audits r s) ≡ Some (audits root service) = is ∙ asked in
      let first : r ≡ root = cc in
      let second : s ≡ service = cc in
      subst₂ (λ (x y : List ℕ). AuditsSo x y status world input output) first second so

module _ (command : Option Command) (status : ℕ) (world : Around) (output : Object SinkState) where
  pub check_asked : (r s root service : List ℕ) → Some (checks r s) ≡ command → command ≡ Some (checks root service) → ChecksSo r s status world output
      → ChecksSo root service status world output
  check_asked r s root service is asked so =
      let e : Some (checks r s) ≡ Some (checks root service) = is ∙ asked in
      let first : r ≡ root = cc in
      let second : s ≡ service = cc in
      subst₂ (λ (x y : List ℕ). ChecksSo x y status world output) first second so

  pub tally_asked : (r s root user : List ℕ) → Some (tallies r s) ≡ command → command ≡ Some (tallies root user) → TalliesSo r s status world output
      → TalliesSo root user status world output
  tally_asked r s root user is asked so =
      let e : Some (tallies r s) ≡ Some (tallies root user) = is ∙ asked in
      let first : r ≡ root = cc in
      let second : s ≡ user = cc in
      subst₂ (λ (x y : List ℕ). TalliesSo x y status world output) first second so

module _ (command : Option Command) (status : ℕ) (setup : Setup) (world : Around) (output : Object SinkState) where
  pub generate_asked : (r s seed lines : ℕ) → Some (generates r s) ≡ command → command ≡ Some (generates seed lines) → GeneratesSo r s status setup world output
      → GeneratesSo seed lines status setup world output
  generate_asked r s seed lines is asked so =
      let e : Some (generates r s) ≡ Some (generates seed lines) = is ∙ asked in
      let first : r ≡ seed = cc in
      let second : s ≡ lines = cc in
      subst₂ (λ (x y : ℕ). GeneratesSo x y status setup world output) first second so

  pub login_asked : (r s : List ℕ) (u : Option (List ℕ)) (root service : List ℕ) (user : Option (List ℕ)) → Some (logs_in r s u) ≡ command
      → command ≡ Some (logs_in root service user)
      → LogsInSo r s u status setup world output → LogsInSo root service user status setup world output
  login_asked r s u root service user is asked so =
      let e : Some (logs_in r s u) ≡ Some (logs_in root service user) = is ∙ asked in
      let first : r ≡ root = cc in
      let second : s ≡ service = cc in
      let third : u ≡ user = cc in
      subst (λ (z : Option (List ℕ)). LogsInSo root service z status setup world output) third
      (subst₂ (λ (x y : List ℕ). LogsInSo x y u status setup world output) first second so)
