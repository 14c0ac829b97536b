use Rattle.std.proofs.Common.{◌∙◌}
use Rattle.cmd_run.proofs.RunPartFacts.{went_on, went_so}
use Rattle.cmd_login.proofs.CallSequenceFacts.{closing_end_as}
use Rattle.cmd_login.proofs.TransactionEndFacts.{closed_if_ended, login_ends, none_left}
use Rattle.cmd_login.proofs.attempt.login.Goals as goal

pub returns : goal.returns
returns g c = record {
  told = λ timed delay is told sink.
      login_ends _ _ _ _ _ _ _ _ _ _ (c.try_login-result.ensures.goes.told timed delay is told sink) c.try_login-result.ensures.goes.went.players
      c.closing_code.result c.closing_code.ensures c.end_silently.ensures.ended;
  reports = λ sink.
      login_ends _ _ _ _ _ _ _ _ _ _ (c.try_login-result.ensures.goes.reports sink) c.try_login-result.ensures.goes.went.players
      c.closing_code.result c.closing_code.ensures c.end_silently.ensures.ended;
  denies = c.try_login-result.ensures.denies;
  none_open = none_left _ _ c.requires.idle.none_open (λ number other. c.end_silently.ensures.others number other ∙ c.try_login-result.ensures.goes.others number other)
      (closed_if_ended _ _ _ _ _ _ (c.end_silently.ensures.ended (λ code asked. 0)));
  went = went_on _ _ _ _ c.try_login-result.ensures.goes.went
      (went_so _ _ (closing_end_as c.try_login-result.result c.closing_code.result c.closing_code.ensures) _ _ c.end_silently.ensures.went);
  faults = c.try_login-result.ensures.goes.faults;
  sink_tells = c.try_login-result.ensures.goes.sink_tells;
}
