use Rattle.std.proofs.Common.{◌≡◌, Err, Option, ap, rules, sym, ◌∙◌}
use Rattle.pam_base.specs.declared.code.Code.{Code}
use Rattle.pam_base.specs.declared.call.AppCall.{AppCall}
use Rattle.cmd_run.specs.pam_library.specs.declared.outcome.Answer.{Answer}
use Rattle.cmd_login.specs.declared.attempt.Verdict.TheVariants.{Passed}
use Rattle.cmd_login.specs.Calls.{last_place}
use Rattle.cmd_login.specs.Login.{LastLine, MakesCall, Then, end_call}
use Rattle.cmd_login.proofs.CallSequenceFacts.{end_ends_as}
use Rattle.cmd_login.proofs.GoesFacts.{goes_as, goes_beside, goes_nowhere, goes_so, goes_stopped, goes_then}
use Rattle.cmd_login.proofs.LoginCallFacts.{denial_known}
use Rattle.cmd_login.proofs.attempt.final_verdict.Goals as goal

pub returns-in_err-make-clause-goes : goal.returns-in_err-make-clause-goes
returns-in_err-make-clause-goes g c =
    let failed : c.from_residual.result ≡ Err c.in_err-make.field-0.0 = search rules in
    let ends = c.end_call.ensures ∙ ap end_call c.end_code.ensures in
    rw failed (goes_as g.K.Sink.sink_tells g.K.Sink.sink_holds g.K.Sink.sink_faults _ _ _ _
    (ap (λ (call : AppCall). Then (MakesCall last_place call) (λ (answer : Answer). LastLine c.args.denied)) ends) _ _ _ _ _
    (goes_stopped g.K.Sink.sink_tells g.K.Sink.sink_holds g.K.Sink.sink_faults _ _ _ _ c.in_err-make.field-0.0 _ _ _ _
    (goes_so g.K.Sink.sink_tells g.K.Sink.sink_holds g.K.Sink.sink_faults _ _ _ (end_ends_as _ c.end_call.result ends) _ _ _ _ _ _ c.in_err-make.ensures.goes)))

pub returns-in-None-clause-goes : goal.returns-in-None-clause-goes
returns-in-None-clause-goes g c =
    let ends = c.end_call.ensures ∙ ap end_call c.end_code.ensures in
    goes_as g.K.Sink.sink_tells g.K.Sink.sink_holds g.K.Sink.sink_faults _ _ _ _
    (ap (λ (call : AppCall). Then (MakesCall last_place call) (λ (answer : Answer). LastLine c.args.denied)) ends) _ _ _ _ _
    (goes_then g.K.Sink.sink_tells g.K.Sink.sink_holds g.K.Sink.sink_faults _ _ _ _ c.in_ok-make.field-0 _ _ _ _ _ _ _
    (goes_so g.K.Sink.sink_tells g.K.Sink.sink_holds g.K.Sink.sink_faults _ _ _ (end_ends_as _ c.end_call.result ends) _ _ _ _ _ _ c.in_ok-make.ensures.goes)
    (goes_as g.K.Sink.sink_tells g.K.Sink.sink_holds g.K.Sink.sink_faults _ _ _ _ (ap (λ (d : Option Code). LastLine d) (sym c.in-None.is)) _ _ _ _ _
    (goes_nowhere g.K.Sink.sink_tells g.K.Sink.sink_holds g.K.Sink.sink_faults _ _ Passed _ _ c.in_ok-make.ensures.goes.went.sound)))

pub returns-in-Some-clause-goes : goal.returns-in-Some-clause-goes
returns-in-Some-clause-goes g c =
    let ends = c.end_call.ensures ∙ ap end_call c.end_code.ensures in
    goes_as g.K.Sink.sink_tells g.K.Sink.sink_holds g.K.Sink.sink_faults _ _ _ _
    (ap (λ (call : AppCall). Then (MakesCall last_place call) (λ (answer : Answer). LastLine c.args.denied)) ends) _ _ _ _ _
    (goes_then g.K.Sink.sink_tells g.K.Sink.sink_holds g.K.Sink.sink_faults _ _ _ _ c.in_ok-make.field-0 _ _ _ _ _ _ _
    (goes_so g.K.Sink.sink_tells g.K.Sink.sink_holds g.K.Sink.sink_faults _ _ _ (end_ends_as _ c.end_call.result ends) _ _ _ _ _ _ c.in_ok-make.ensures.goes)
    (goes_as g.K.Sink.sink_tells g.K.Sink.sink_holds g.K.Sink.sink_faults _ _ _ _ (ap (λ (d : Option Code). LastLine d) (sym c.in-Some.is)) _ _ _ _ _
    (goes_beside g.K.Sink.sink_tells g.K.Sink.sink_holds g.K.Sink.sink_faults _ _ _ _ _ _ _ c.in_ok-make.ensures.goes.went.sound
    (λ known s sink. denial_known _ _ known _ s _ _ (c.deny.ensures.writes s sink)) c.deny.ensures.faults c.deny.ensures.sink_tells)))
