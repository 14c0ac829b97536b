-- A run with a delay function whose number is known.
use Rattle.std.proofs.Common.{◌≡◌, ℕ, Bool, List, Option, sym, subst}
use Rattle.pam_base.specs.declared.code.Code.{Code}
use Rattle.fail_delay.specs.DelayFn.{IsNumberGiven}
use Rattle.pam_outside.specs.Streams.{SourceState, SinkState}
use Rattle.pam_room.specs.Module.{Player}
use Rattle.cmd_check.specs.pam_library.specs.Slots.{PlainSlot}
use Rattle.cmd_all.specs.ByCommand.{Around, Object, Setup, WiresSo}
use Rattle.cmd_all.specs.Command.{Command}
use Rattle.cmd_all.specs.Setup.{Moments}
use Rattle.frame_service.specs.Service.{served_wait}
use Rattle.frame_service.specs.Serving.{ServesFrames}

waits : (Post : Code → ℕ → ℕ → Type 0) → IsNumberGiven Post served_wait → (number : Code → ℕ → ℕ) → number ≡ served_wait → IsNumberGiven Post number
waits Post given number same = subst (IsNumberGiven Post) (sym same) given

abbrev setup_by : List Player → List PlainSlot → ((Code → ℕ → ℕ) → Type 0) → Moments → Bool → Setup
setup_by players slots gives moments tells = record { players = players; slots = slots; gives = gives; moments = moments; tells = tells }

module _ (asked : Option Command) (status : ℕ) (players : List Player) (slots : List PlainSlot) (Post : Code → ℕ → ℕ → Type 0) (moments : Moments) (tells : Bool)
    (world : Around) (input : Object SourceState) (output : Object SinkState) where
  wires_with : (root : List ℕ) → WiresSo root status (setup_by players slots (IsNumberGiven Post) moments tells) world input output → IsNumberGiven Post served_wait
      → WiresSo root status (setup_by players slots (λ number. number ≡ served_wait) moments tells) world input output
  wires_with root wire given = record {
    wire_answered = λ number known. wire.wire_answered number (waits Post given number known);
    wire_told = λ number known. wire.wire_told number (waits Post given number known);
    wire_statuses = wire.wire_statuses;
    wire_reads = wire.wire_reads;
    wire_complete = wire.wire_complete;
    wire_writes = wire.wire_writes;
    wire_reports = λ told.
        let r = wire.wire_reports told in
        record { result = r.result; is = r.is; reports = r.reports };
    wire_no_read_fault = wire.wire_no_read_fault;
  }

  pub served_with : ServesFrames asked status (setup_by players slots (IsNumberGiven Post) moments tells) world input output → IsNumberGiven Post served_wait
      → ServesFrames asked status (setup_by players slots (λ number. number ≡ served_wait) moments tells) world input output
  served_with s given = record {
    wire = λ root is. wires_with root (s.wire root is) given;
    command = s.command;
    read_causes = s.read_causes;
    write_causes = s.write_causes;
    cleaned_up = s.cleaned_up;
  }

  -- the same for modules that are known
  pub served_as : (others : List Player) → ServesFrames asked status (setup_by players slots (IsNumberGiven Post) moments tells) world input output
      → IsNumberGiven Post served_wait → players ≡ others → ServesFrames asked status (setup_by others slots (λ number. number ≡ served_wait) moments tells) world
      input output
  served_as others s given same =
      subst (λ ps. ServesFrames asked status (setup_by ps slots (λ number. number ≡ served_wait) moments tells) world input output) same (served_with s given)
