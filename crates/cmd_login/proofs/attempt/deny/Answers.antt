use Rattle.std.proofs.Common.{◌≡◌, Err, refl, rules}
use Rattle.record_reader.specs.declared.ending.Stop.TheVariants.{NoMemory, WriteFault}
use Rattle.cmd_login.proofs.LoginCallFacts.{denial_cut, denial_unwritten, denial_written}
use Rattle.cmd_login.proofs.attempt.deny.Goals as goal

pub returns-in_err-line-clause-writes : goal.returns-in_err-line-clause-writes
returns-in_err-line-clause-writes g c = λ s sink.
    let failed : c.from_residual.result ≡ Err NoMemory = search rules in
    rw failed (denial_unwritten _ _ s _)

pub returns-in_err-write_all-clause-writes : goal.returns-in_err-write_all-clause-writes
returns-in_err-write_all-clause-writes g c = λ s sink.
    let failed : c.from_residual-in_err-write_all.result ≡ Err WriteFault = search rules in
    rw failed (denial_cut _ _ s _ c.in_ok-line.ensures _ _ c.in_err-write_all.field-0.0
    (rw c.as_bytes.ensures.value at (c.in_err-write_all.ensures.told sink)))

pub returns-clause-writes : goal.returns-clause-writes
returns-clause-writes g c = λ s sink.
    denial_written _ _ s _ c.in_ok-line.ensures _ _ c.in_ok-write_all.field-0
    (rw c.as_bytes.ensures.value at (c.in_ok-write_all.ensures.told sink))
