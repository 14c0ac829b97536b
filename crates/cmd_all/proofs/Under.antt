-- What the status of a run under a root says, for a script and for frames.
use Rattle.std.proofs.Common.{◌≡◌, ◌≢◌, ◌⊎◌, inl, inr, ℕ, List, Some, Result, Ok, Err, IfOk, IsTrue, refl, sym, ap, ◌∙◌, subst, arith}
use Rattle.pam_base.specs.declared.fault.ScriptKind.{ScriptKind}
use Rattle.pam_outside.specs.Counts.{RisesIf, Rose}
use Rattle.pam_outside.specs.Streams.{SourceState, SinkState}
use Rattle.pam_library.specs.Slots.{PlainSlot}
use Rattle.record_reader.specs.declared.ending.Ending.{Ending}
use Rattle.record_reader.specs.declared.ending.Ending.TheVariants.{Done, ReadFault, Refused}
use Rattle.record_reader.specs.declared.ending.Stop.{Stop}
use Rattle.record_reader.specs.declared.ending.Stop.TheVariants.{NoMemory, WriteFault}
use Rattle.record_reader.specs.Object.{Object}
use Rattle.record_reader.specs.Turns.{has_read_fault, has_write_fault}
use Rattle.cmd_run.specs.Ends.{IsEndOfRun}
use Rattle.cmd_run.specs.Reading.{ReadsScript}
use Rattle.cmd_run.specs.SideBySide.{NumbersGoAlone}
use Rattle.cmd_run.specs.State.{Setting}
use Rattle.cmd_run.specs.Made.{ReportsRun}
use Rattle.cmd_run.specs.Script.{as_it_is}
use Rattle.cmd_run.specs.Whole.{Completes, RunsScript, script_last}
use Rattle.cmd_wire.specs.pam_wire.specs.Frame.{answer_of}
use Rattle.cmd_wire.specs.Answered.{nothing_last}
use Rattle.cmd_wire.specs.frame_stream.specs.declared.fault.FrameFault.{FrameFault}
use Rattle.cmd_wire.specs.frame_stream.specs.declared.fault.FrameFault.TheVariants.{BadFrame, TooManyFrames}
use Rattle.cmd_wire.specs.Ends.{IsEndOfRun as IsEndOfFrames}
use Rattle.cmd_wire.specs.Reading.{ReadsFrames}
use Rattle.cmd_wire.specs.Whole.{Completes as FramesComplete, RunsAnswered}
use Rattle.cmd_all.specs.declared.exit.Exit.TheVariants as exits
use Rattle.cmd_all.specs.Exit.{exit_status, frames_exit, script_exit}
use Rattle.cmd_all.specs.ByCommand.{Around, ReadCauses, RunsSo, Setup, WiresSo, WriteCauses}
use Rattle.cmd_all.specs.Run.{Completes as CompletesBy, ReadsBy, Runs, opening}
use Rattle.cmd_all.specs.Under.{ReadsOrNot, RunsOrNot, RunsUnder, stream_runs}
use Rattle.cmd_all.specs.Wire.{ReadsFramesBy, Serves}
use Rattle.cmd_all.proofs.Alone.{nothing_read}
use Rattle.cmd_all.proofs.Commands.{run_read_fault, run_write_fault, runs_so, wires_so}
use Rattle.cmd_all.proofs.WireStatusFacts.{completes_by, no_fault_read, no_frame_read, read_by, through}

-- ---- a script

module _ (result : Result (Ending ScriptKind) Stop) (status before now : ℕ) (is : status ≡ exit_status (script_exit result)) where
  no_fault : (r : Result (Ending ScriptKind) Stop) → IfOk r (λ ending. RisesIf (has_read_fault (Ok (Some ending))) before now)
      → (exit_status (script_exit r) ≡ exit_status exits.Done) ⊎ (exit_status (script_exit r) ≡ exit_status exits.LineRefused) → now ≡ before
  no_fault (Ok Done) rises either = rises
  no_fault (Ok (Refused kind)) rises either = rises
  no_fault (Ok ReadFault) rises (inl e) = absurd (omega (arith, e))
  no_fault (Ok ReadFault) rises (inr e) = absurd (omega (arith, e))
  no_fault (Err NoMemory) rises (inl e) = absurd (omega (arith, e))
  no_fault (Err NoMemory) rises (inr e) = absurd (omega (arith, e))
  no_fault (Err WriteFault) rises (inl e) = absurd (omega (arith, e))
  no_fault (Err WriteFault) rises (inr e) = absurd (omega (arith, e))

  run_no_read_fault : IfOk result (λ ending. RisesIf (has_read_fault (Ok (Some ending))) before now)
      → (status ≡ exit_status exits.Done) ⊎ (status ≡ exit_status exits.LineRefused) → now ≡ before
  run_no_read_fault rises either = no_fault result rises (subst (λ (n : ℕ). (n ≡ exit_status exits.Done) ⊎ (n ≡ exit_status exits.LineRefused)) is either)

  no_failed_write : (r : Result (Ending ScriptKind) Stop) → RisesIf (has_write_fault r) before now
      → (exit_status (script_exit r) ≡ exit_status exits.WriteFault → ⊥) → now ≡ before
  no_failed_write (Ok Done) rises other = rises
  no_failed_write (Ok ReadFault) rises other = rises
  no_failed_write (Ok (Refused kind)) rises other = rises
  no_failed_write (Err NoMemory) rises other = rises
  no_failed_write (Err WriteFault) rises other = absurd (other refl)

  run_no_write_fault : RisesIf (has_write_fault result) before now → status ≢ exit_status exits.WriteFault → now ≡ before
  run_no_write_fault rises other = no_failed_write result rises (λ six. other (is ∙ six))

module _ (setting : Setting) (result : Result (Ending ScriptKind) Stop) (status : ℕ) (is : status ≡ exit_status (script_exit result))
    (slots : List PlainSlot) (root : List ℕ) (world : Around) (input : Object SourceState) (output : Object SinkState) where
  script_told : NumbersGoAlone → RunsOrNot RunsScript setting result (opening slots root world.old) world input output
      → Runs setting status slots root world input output
  script_told apart (inl b) = inl (record {
    result = result;
    is = is;
    end = b.end;
    world_is = b.world_is;
    runs = b.runs;
    none_yet = b.none_yet;
    side_by_side = λ bytes ended. record {
      alone = λ number slot there. apart.alone setting (opening slots root world.old) bytes ended number slot there;
      steps = apart.steps setting (opening slots root world.old) bytes ended;
    };
  })
  script_told apart (inr n) = inr (is ∙ ap exit_status (ap script_exit n.0), n.1)

module _ (result : Result (Ending ScriptKind) Stop) (status : ℕ) (is : status ≡ exit_status (script_exit result)) where
  by_either : (result ≡ Ok Done) ⊎ (result ≡ Err NoMemory) → (status ≡ exit_status exits.Done) ⊎ (status ≡ exit_status exits.NoMemory)
  by_either (inl e) = inl (is ∙ ap exit_status (ap script_exit e))
  by_either (inr e) = inr (is ∙ ap exit_status (ap script_exit e))

  script_completes : (input : List ℕ) (R W : Type 0) → Completes result input R W → CompletesBy status input R W
  script_completes input R W complete = λ accepted no_read no_write. by_either (complete accepted no_read no_write)

script_read : (result : Result (Ending ScriptKind) Stop) (status : ℕ) → status ≡ exit_status (script_exit result) → (x y : SourceState)
    → ReadsOrNot ReadsScript result x y → ReadsBy status x y
script_read result status is x y (inl r) = record { result = result; is = is; reads = r }
script_read result status is x y (inr n) =
    subst (λ (z : SourceState). ReadsBy status x z) (sym n.1) (nothing_read status x (is ∙ ap exit_status (ap script_exit n.0)))

module _ (root : List ℕ) (result : Result (Ending ScriptKind) Stop) (status : ℕ) (is : status ≡ exit_status (script_exit result)) (setup : Setup)
    (world : Around) (input : Object SourceState) (output : Object SinkState)
    (u : RunsUnder (stream_runs RunsScript ReadsScript Completes IsEndOfRun) root result setup world input output) where
  pub script_so : NumbersGoAlone → (IsTrue output.tells → ReportsRun as_it_is script_last setup.players result setup.slots output.old output.new)
      → RunsSo root status setup world input output
  script_so apart reports =
      runs_so root status setup world input output
      (λ number given source sink both. script_told _ result status is setup.slots root world input output apart (u.told number given source sink both))
      (result, is)
      (λ source. script_read result status is input.old input.new (u.reads source))
      (λ source. script_completes result status is input.old.left (Rose input.faults_before input.faults_after) (Rose output.faults_before output.faults_after)
      (u.complete source))
      u.writes
      (λ sink. record { result = result; is = is; reports = reports sink })

  pub script_read_causes : ReadCauses status input
  script_read_causes = record {
    read_fault = run_read_fault status input.faults_before input.faults_after result is u.source_faults;
    no_read_fault = run_no_read_fault result status input.faults_before input.faults_after is u.source_faults;
    source_tells = u.source_tells;
  }

  pub script_write_causes : WriteCauses status world output
  script_write_causes = record {
    write_fault = run_write_fault status output.faults_before output.faults_after result is u.sink_faults;
    no_write_fault = run_no_write_fault result status output.faults_before output.faults_after is u.sink_faults;
    sink_tells = u.sink_tells;
    world_tells = u.world_tells;
  }

-- ---- frames

module _ (before now : ℕ) where
  failed_read : (r : Result (Ending FrameFault) Stop) → IfOk r (λ ending. RisesIf (has_read_fault (Ok (Some ending))) before now)
      → exit_status (frames_exit r) ≡ exit_status exits.ReadFault → Rose before now
  failed_read (Ok Done) rises five = absurd (omega (arith, five))
  failed_read (Ok ReadFault) rises five = rises
  failed_read (Ok (Refused BadFrame)) rises five = absurd (omega (arith, five))
  failed_read (Ok (Refused TooManyFrames)) rises five = absurd (omega (arith, five))
  failed_read (Err NoMemory) rises five = absurd (omega (arith, five))
  failed_read (Err WriteFault) rises five = absurd (omega (arith, five))

  failed_write : (r : Result (Ending FrameFault) Stop) → RisesIf (has_write_fault r) before now
      → exit_status (frames_exit r) ≡ exit_status exits.WriteFault → Rose before now
  failed_write (Ok Done) rises six = absurd (omega (arith, six))
  failed_write (Ok ReadFault) rises six = absurd (omega (arith, six))
  failed_write (Ok (Refused BadFrame)) rises six = absurd (omega (arith, six))
  failed_write (Ok (Refused TooManyFrames)) rises six = absurd (omega (arith, six))
  failed_write (Err NoMemory) rises six = absurd (omega (arith, six))
  failed_write (Err WriteFault) rises six = rises

  no_write_failed : (r : Result (Ending FrameFault) Stop) → RisesIf (has_write_fault r) before now
      → (exit_status (frames_exit r) ≡ exit_status exits.WriteFault → ⊥) → now ≡ before
  no_write_failed (Ok Done) rises other = rises
  no_write_failed (Ok ReadFault) rises other = rises
  no_write_failed (Ok (Refused kind)) rises other = rises
  no_write_failed (Err NoMemory) rises other = rises
  no_write_failed (Err WriteFault) rises other = absurd (other refl)

module _ (setting : Setting) (result : Result (Ending FrameFault) Stop) (status : ℕ) (is : status ≡ exit_status (frames_exit result))
    (slots : List PlainSlot) (root : List ℕ) (world : Around) (input : Object SourceState) (output : Object SinkState) where
  frames_told : RunsOrNot RunsAnswered setting result (opening slots root world.old) world input output → Serves setting status slots root world input output
  frames_told (inl b) = inl (record { result = result; is = is; end = b.end; world_is = b.world_is; answers = b.runs.answered })
  frames_told (inr n) = inr (is ∙ ap exit_status (ap frames_exit n.0), n.1)

frames_read : (result : Result (Ending FrameFault) Stop) (status : ℕ) → status ≡ exit_status (frames_exit result) → (x y : SourceState)
    → ReadsOrNot ReadsFrames result x y → ReadsFramesBy status x y
frames_read result status is x y (inl r) = read_by result status is x y r
frames_read result status is x y (inr n) =
    subst (λ (z : SourceState). ReadsFramesBy status x z) (sym n.1) (no_frame_read status x (is ∙ ap exit_status (ap frames_exit n.0)))

module _ (root : List ℕ) (result : Result (Ending FrameFault) Stop) (status : ℕ) (is : status ≡ exit_status (frames_exit result)) (setup : Setup)
    (world : Around) (input : Object SourceState) (output : Object SinkState)
    (u : RunsUnder (stream_runs RunsAnswered ReadsFrames FramesComplete IsEndOfFrames) root result setup world input output) where
  pub frames_so : (IsTrue output.tells → ReportsRun answer_of nothing_last setup.players result setup.slots output.old output.new)
      → WiresSo root status setup world input output
  frames_so reports =
      wires_so root status setup world input output
      (λ number given source sink both. frames_told _ result status is setup.slots root world input output (u.told number given source sink both))
      (result, is)
      (λ source. frames_read result status is input.old input.new (u.reads source))
      (λ source. completes_by result status is input.old.left (Rose input.faults_before input.faults_after) (Rose output.faults_before output.faults_after)
      (u.complete source))
      u.writes
      (λ sink. record { result = result; is = is; reports = reports sink })
      (through result status is input.faults_before input.faults_after u.source_faults)

  pub frames_read_causes : ReadCauses status input
  frames_read_causes = record {
    read_fault = λ five. failed_read input.faults_before input.faults_after result u.source_faults (sym is ∙ five);
    no_read_fault = no_fault_read status input.faults_before input.faults_after (result, is)
        (through result status is input.faults_before input.faults_after u.source_faults);
    source_tells = u.source_tells;
  }

  pub frames_write_causes : WriteCauses status world output
  frames_write_causes = record {
    write_fault = λ six. failed_write output.faults_before output.faults_after result u.sink_faults (sym is ∙ six);
    no_write_fault = λ other. no_write_failed output.faults_before output.faults_after result u.sink_faults (λ six. other (is ∙ six));
    sink_tells = u.sink_tells;
    world_tells = u.world_tells;
  }
