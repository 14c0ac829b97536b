use Rattle.std.proofs.Common.{◌∙◌}
use Rattle.cmd_generate.proofs.FirstSlotFacts.{came, first_closed, none_open}
use Rattle.cmd_run.proofs.RunPartFacts.{went_on, went_so}
use Rattle.cmd_generate.proofs.login.log_in.Goals as goal

pub returns : goal.returns
returns g c = record {
  told = λ delay is told.
      came _ c.attempt-login.result _ _ _ (first_closed _ c.requires.none_open) (c.attempt-login.ensures.told delay is told)
      (rw (c.attempt-login.ensures.went.players, c.code_number.ensures, c.end_status-status.ensures) at (c.end.ensures.ends delay));
  none_open = none_open _ _ c.requires.none_open (λ number other. c.end.ensures.others number other
      ∙ c.attempt-login.ensures.others number other) c.end.ensures.closed;
  went = went_on _ _ _ _ (went_so _ _ (λ number status none. absurd none) _ _ c.attempt-login.ensures.went)
      (rw (c.code_number.ensures, c.end_status-status.ensures) at c.end.ensures.went);
}
