-- How the report of a call, or of an end, is written (this project's own).
use Rattle.std.specs.Prelude.{◌≡◌, ℕ, List, Result, Ok, Err}
use Rattle.pam_base.specs.declared.fault.Failed.{Failed}
use Rattle.pam_outside.specs.Streams.{SinkState, WritesWhole}
use Rattle.record_reader.specs.declared.ending.Stop.{Stop}
use Rattle.record_reader.specs.declared.ending.Stop.TheVariants.{NoMemory, WriteFault}

-- All of its bytes are written; or those before a write that failed; or none, if an allocation failed.
abbrev pub WritesReport : Result (Unit {0}) Stop → List ℕ → SinkState → SinkState → Type 0
WritesReport (Ok done) bytes old new = WritesWhole {T = Unit {0}} (Ok done) bytes old new
WritesReport (Err WriteFault) bytes old new = (failed : Failed)
    × WritesWhole {T = Unit {0}} (Err failed) bytes old new
WritesReport (Err NoMemory) bytes old new = new ≡ old
