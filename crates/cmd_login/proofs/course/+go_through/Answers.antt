use Rattle.std.proofs.Common.{◌≡◌, Err, None, Ok, Some, rules, sym, ◌∙◌}
use Rattle.std.proofs.lemmas.List.{nil_from_length}
use Rattle.cmd_login.specs.Ends.{IsNoEnd}
use Rattle.cmd_login.proofs.CallSequenceFacts.{stack_no_end}
use Rattle.cmd_login.proofs.GoesFacts.{goes_as, goes_nowhere, goes_so, goes_stopped, goes_then}
use Rattle.cmd_login.proofs.MiddleCallFacts.{goes_on, is_denied, makes, none_left}
use Rattle.cmd_login.proofs.course.+go_through.Goals as goal

pub returns-in_default-clause-goes : goal.returns-in_default-clause-goes
returns-in_default-clause-goes g t c =
    goes_as g.K.Sink.sink_tells g.K.Sink.sink_holds g.K.Sink.sink_faults _ _ _ _ (none_left _ _ (nil_from_length c.args.calls.now c.in_default.ensures.cases))
    _ _ _ _ _ (goes_nowhere g.K.Sink.sink_tells g.K.Sink.sink_holds g.K.Sink.sink_faults _ _ None _ _ c.requires)

pub returns-in_err-answer-clause-goes : goal.returns-in_err-answer-clause-goes
returns-in_err-answer-clause-goes g t c =
    let failed : c.from_residual.result ≡ Err c.in_err-answer.field-0.0 = search rules in
    rw failed (goes_as g.K.Sink.sink_tells g.K.Sink.sink_holds g.K.Sink.sink_faults _ _ _ _
    (makes _ c.in-Some.call.now _ _ c.in-Some.ensures.cases.0 _ c.call.ensures (sym c.is_due.ensures ∙ c.if-not-is_due.false)) _ _ _ _ _
    (goes_stopped g.K.Sink.sink_tells g.K.Sink.sink_holds g.K.Sink.sink_faults _ _ _ _ c.in_err-answer.field-0.0 _ _ _ _
    (goes_so g.K.Sink.sink_tells g.K.Sink.sink_holds g.K.Sink.sink_faults _ _ _ (stack_no_end c.in-Some.call.now c.call.result c.call.ensures) _ _ _ _ _ _
    c.in_err-answer.ensures.goes)))

pub returns-then-accepts-clause-goes : goal.returns-then-accepts-clause-goes
returns-then-accepts-clause-goes g t c =
    goes_as g.K.Sink.sink_tells g.K.Sink.sink_holds g.K.Sink.sink_faults _ _ _ _
    (makes _ c.in-Some.call.now _ _ c.in-Some.ensures.cases.0 _ c.call.ensures (sym c.is_due.ensures ∙ c.if-not-is_due.false)) _ _ _ _ _
    (goes_then g.K.Sink.sink_tells g.K.Sink.sink_holds g.K.Sink.sink_faults _ _ _ _ c.in_ok-answer.answer _ _ _ _ _ _ _
    (goes_so g.K.Sink.sink_tells g.K.Sink.sink_holds g.K.Sink.sink_faults _ _ _ (stack_no_end c.in-Some.call.now c.call.result c.call.ensures) _ _ _ _ _ _
    c.in_ok-answer.ensures.goes)
    (goes_as g.K.Sink.sink_tells g.K.Sink.sink_holds g.K.Sink.sink_faults _ _ _ _
    (goes_on _ _ _ c.in_ok-answer.answer c.code_in-code.ensures (sym c.accepts.ensures ∙ c.if-accepts.true)) _ _ _ _ _
    c.go_through-then-accepts.ensures.goes))

pub returns-clause-goes : goal.returns-clause-goes
returns-clause-goes g t c =
    goes_as g.K.Sink.sink_tells g.K.Sink.sink_holds g.K.Sink.sink_faults _ _ _ _
    (makes _ c.in-Some.call.now _ _ c.in-Some.ensures.cases.0 _ c.call.ensures (sym c.is_due.ensures ∙ c.if-not-is_due.false)) _ _ _ _ _
    (goes_then g.K.Sink.sink_tells g.K.Sink.sink_holds g.K.Sink.sink_faults _ _ _ _ c.in_ok-answer.answer _ _ _ _ _ _ _
    (goes_so g.K.Sink.sink_tells g.K.Sink.sink_holds g.K.Sink.sink_faults _ _ _ (stack_no_end c.in-Some.call.now c.call.result c.call.ensures) _ _ _ _ _ _
    c.in_ok-answer.ensures.goes)
    (goes_as g.K.Sink.sink_tells g.K.Sink.sink_holds g.K.Sink.sink_faults _ _ _ _
    (is_denied _ _ _ c.in_ok-answer.answer c.code_in-code.ensures (sym c.accepts.ensures ∙ c.if-accepts.false)) _ _ _ _ _
    (goes_nowhere g.K.Sink.sink_tells g.K.Sink.sink_holds g.K.Sink.sink_faults _ _ (Some c.code_in-code.result) _ _ c.in_ok-answer.ensures.goes.went.sound)))
