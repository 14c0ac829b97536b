-- What is known of a run if only the source or only the sink is modelled, by its status.
use Rattle.std.proofs.Common.{◌≡◌, ℕ, [], Result, Ok, Err, refl, sym, append-nil, arith}
use Rattle.pam_outside.specs.Streams.{SourceState, SinkState}
use Rattle.record_reader.specs.LineTurns.{Ending}
use Rattle.record_reader.specs.declared.ending.Ending.TheVariants.{Done, ReadFault, Refused}
use Rattle.record_reader.specs.declared.ending.Stop.{Stop}
use Rattle.record_reader.specs.declared.ending.Stop.TheVariants.{NoMemory, WriteFault}
use Rattle.cmd_run.specs.Reading.{ReadsScript, WritesScript}
use Rattle.cmd_all.specs.declared.exit.Exit.TheVariants as exits
use Rattle.cmd_all.specs.Exit.{exit_status, script_exit}
use Rattle.cmd_all.specs.Run.{HasRefused, IsAccepted, ReadsBy}

pub nothing_read : (status : ℕ) (x : SourceState) → status ≡ exit_status exits.NoMemory → ReadsBy status x x
nothing_read status x is = record {
  result = Err NoMemory;
  is = is;
  reads =
      record { taken = []; source = refl; reads = omega arith; ends = omega arith; by = tt };
}

pub nothing_written : (p : SinkState) → WritesScript p p
nothing_written p = record { text = []; written = sym (append-nil p.written); calls = omega arith }

module _ (status : ℕ) (x y : SourceState) where
  accepted_by : (result : Result Ending Stop) → status ≡ exit_status (script_exit result) → ReadsScript result x y → status ≡ exit_status exits.Done
      → IsAccepted x.left y.left
  accepted_by (Ok Done) is r zero = r.by
  accepted_by (Ok ReadFault) is r zero = absurd (omega (arith, is, zero))
  accepted_by (Ok (Refused kind)) is r zero = absurd (omega (arith, is, zero))
  accepted_by (Err NoMemory) is r zero = absurd (omega (arith, is, zero))
  accepted_by (Err WriteFault) is r zero = absurd (omega (arith, is, zero))

  refused_by : (result : Result Ending Stop) → status ≡ exit_status (script_exit result) → ReadsScript result x y
      → status ≡ exit_status exits.LineRefused → HasRefused x.left
  refused_by (Ok Done) is r seven = absurd (omega (arith, is, seven))
  refused_by (Ok ReadFault) is r seven = absurd (omega (arith, is, seven))
  refused_by (Ok (Refused kind)) is r seven = (kind, r.by)
  refused_by (Err NoMemory) is r seven = absurd (omega (arith, is, seven))
  refused_by (Err WriteFault) is r seven = absurd (omega (arith, is, seven))

  pub is_accepted : ReadsBy status x y → status ≡ exit_status exits.Done → IsAccepted x.left y.left
  is_accepted r zero = accepted_by r.result r.is r.reads zero

  pub is_refused : ReadsBy status x y → status ≡ exit_status exits.LineRefused → HasRefused x.left
  is_refused r seven = refused_by r.result r.is r.reads seven
