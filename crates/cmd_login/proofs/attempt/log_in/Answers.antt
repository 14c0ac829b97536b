use Rattle.std.proofs.Common.{◌≡◌, Err, refl, rules}
use Rattle.cmd_login.proofs.CallSequenceFacts.{no_end, own_end}
use Rattle.cmd_login.proofs.GoesFacts.{goes_so, goes_stopped, goes_then}
use Rattle.cmd_login.proofs.attempt.log_in.Goals as goal

pub returns-in_err-denied-clause-goes : goal.returns-in_err-denied-clause-goes
returns-in_err-denied-clause-goes g c =
    let failed : c.from_residual.result ≡ Err c.in_err-denied.field-0.0 = search rules in
    rw failed (goes_stopped g.K.Sink.sink_tells g.K.Sink.sink_holds g.K.Sink.sink_faults _ _ _ _ c.in_err-denied.field-0.0 _ _ _ _
    (goes_so g.K.Sink.sink_tells g.K.Sink.sink_holds g.K.Sink.sink_faults _ _ _ (no_end (Err c.in_err-denied.field-0.0)) _ _ _ _ _ _ c.in_err-denied.ensures.goes))

pub returns-clause-goes : goal.returns-clause-goes
returns-clause-goes g c =
    goes_then g.K.Sink.sink_tells g.K.Sink.sink_holds g.K.Sink.sink_faults _ _ _ _ c.in_ok-denied.denied _ _ _ _ _ _ _
    (goes_so g.K.Sink.sink_tells g.K.Sink.sink_holds g.K.Sink.sink_faults _ _ _ (no_end c.final_verdict.result) _ _ _ _ _ _ c.in_ok-denied.ensures.goes)
    (goes_so g.K.Sink.sink_tells g.K.Sink.sink_holds g.K.Sink.sink_faults _ _ _
    (own_end c.in_ok-denied.denied c.final_verdict.result (λ code e. c.in_ok-denied.ensures.denies code (rw e refl)) c.final_verdict.ensures.verdict)
    _ _ _ _ _ _ c.final_verdict.ensures.goes)
