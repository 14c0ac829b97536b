use Rattle.std.proofs.Common.{◌≡◌, Bool, Err, Ok, ap, refl, rules, sym, ◌∙◌}
use Rattle.record_reader.specs.declared.ending.Stop.TheVariants.{NoMemory}
use Rattle.cmd_login.specs.declared.attempt.Verdict.TheVariants.{Refused}
use Rattle.cmd_login.specs.Login.{UnlessRefused}
use Rattle.cmd_login.proofs.CallSequenceFacts.{start_no_end}
use Rattle.cmd_login.proofs.GoesFacts.{goes_as, goes_nowhere, goes_so, goes_stopped, goes_then}
use Rattle.cmd_login.proofs.LoginStartFacts.{from_start, goes_started, goes_unbegun}
use Rattle.cmd_login.proofs.attempt.try_login.Goals as goal

pub returns-in_err-start-clause-goes : goal.returns-in_err-start-clause-goes
returns-in_err-start-clause-goes g c =
    let failed : c.from_residual.result ≡ Err NoMemory = search rules in
    rw failed (goes_unbegun g.K.Sink.sink_tells g.K.Sink.sink_holds g.K.Sink.sink_faults _ _ _ _ _ _ c.requires.sound)

pub returns-in_err-answer-clause-goes : goal.returns-in_err-answer-clause-goes
returns-in_err-answer-clause-goes g c =
    let failed : c.from_residual-in_err-answer.result ≡ Err c.in_err-answer.field-0.0 = search rules in
    rw failed (goes_started g.K.Sink.sink_tells g.K.Sink.sink_holds g.K.Sink.sink_faults _ _ _ _ _ _ _ _ _
    (goes_as g.K.Sink.sink_tells g.K.Sink.sink_holds g.K.Sink.sink_faults _ _ _ _ (from_start _ _ _ c.in_ok-start.ensures) _ _ _ _ _
    (goes_stopped g.K.Sink.sink_tells g.K.Sink.sink_holds g.K.Sink.sink_faults _ _ _ _ c.in_err-answer.field-0.0 _ _ _ _
    (goes_so g.K.Sink.sink_tells g.K.Sink.sink_holds g.K.Sink.sink_faults _ _ _ (start_no_end _ _ c.in_ok-start.start c.in_ok-start.ensures (Err c.in_err-answer.field-0.0)) _ _ _ _ _ _
    c.in_err-answer.ensures.goes))))

pub returns-then-is_refused-clause-goes : goal.returns-then-is_refused-clause-goes
returns-then-is_refused-clause-goes g c =
    goes_started g.K.Sink.sink_tells g.K.Sink.sink_holds g.K.Sink.sink_faults _ _ _ _ _ _ _ _ _
    (goes_as g.K.Sink.sink_tells g.K.Sink.sink_holds g.K.Sink.sink_faults _ _ _ _ (from_start _ _ _ c.in_ok-start.ensures) _ _ _ _ _
    (goes_then g.K.Sink.sink_tells g.K.Sink.sink_holds g.K.Sink.sink_faults _ _ _ _ c.in_ok-answer.answer _ _ _ _ _ _ _
    (goes_so g.K.Sink.sink_tells g.K.Sink.sink_holds g.K.Sink.sink_faults _ _ _ (start_no_end _ _ c.in_ok-start.start c.in_ok-start.ensures (Ok Refused)) _ _ _ _ _ _
    c.in_ok-answer.ensures.goes)
    (goes_as g.K.Sink.sink_tells g.K.Sink.sink_holds g.K.Sink.sink_faults _ _ _ _ (ap (λ (b : Bool). UnlessRefused b) (sym (sym c.is_refused.ensures ∙ c.if-is_refused.true))) _ _ _ _ _
    (goes_nowhere g.K.Sink.sink_tells g.K.Sink.sink_holds g.K.Sink.sink_faults _ _ Refused _ _ c.in_ok-answer.ensures.goes.went.sound))))

pub returns-clause-goes : goal.returns-clause-goes
returns-clause-goes g c =
    goes_started g.K.Sink.sink_tells g.K.Sink.sink_holds g.K.Sink.sink_faults _ _ _ _ _ _ _ _ _
    (goes_as g.K.Sink.sink_tells g.K.Sink.sink_holds g.K.Sink.sink_faults _ _ _ _ (from_start _ _ _ c.in_ok-start.ensures) _ _ _ _ _
    (goes_then g.K.Sink.sink_tells g.K.Sink.sink_holds g.K.Sink.sink_faults _ _ _ _ c.in_ok-answer.answer _ _ _ _ _ _ _
    (goes_so g.K.Sink.sink_tells g.K.Sink.sink_holds g.K.Sink.sink_faults _ _ _ (start_no_end _ _ c.in_ok-start.start c.in_ok-start.ensures c.log_in.result) _ _ _ _ _ _
    c.in_ok-answer.ensures.goes)
    (goes_as g.K.Sink.sink_tells g.K.Sink.sink_holds g.K.Sink.sink_faults _ _ _ _ (ap (λ (b : Bool). UnlessRefused b) (sym (sym c.is_refused.ensures ∙ c.if-is_refused.false))) _ _ _ _ _
    c.log_in.ensures.goes)))
