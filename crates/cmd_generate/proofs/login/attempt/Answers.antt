use Rattle.std.proofs.Common.{◌∙◌}
use Rattle.cmd_generate.proofs.FirstSlotFacts.{tries_both, tries_not, tries_stopped}
use Rattle.cmd_run.proofs.RunPartFacts.{still_told, went_on}
use Rattle.cmd_generate.proofs.login.attempt.Goals as goal

pub returns-in-Err : goal.returns-in-Err
returns-in-Err g c = record {
  told = λ delay is told. tries_not _ _ _ c.in-Err.refuse (c.in-Err.ensures.told delay is told);
  others = c.start.ensures.others;
  went = c.start.ensures.went;
}

pub returns-in-Err-authenticate : goal.returns-in-Err-authenticate
returns-in-Err-authenticate g c = record {
  told = λ delay is told.
      let next = c.in-Err-authenticate.ensures.told delay (c.start.ensures.went.gives delay is) (still_told _ _ _ c.start.ensures.went told) in
      tries_stopped _ _ _ _ tt (c.in-Ok.ensures.told delay is told) (rw c.start.ensures.went.players at next);
  others = λ number other. c.authenticate.ensures.others number other ∙ c.start.ensures.others number other;
  went = went_on _ _ _ _ c.start.ensures.went c.authenticate.ensures.went;
}

pub returns-in-Ok-authenticate : goal.returns-in-Ok-authenticate
returns-in-Ok-authenticate g c = record {
  told = λ delay is told.
      let next = c.in-Ok-authenticate.ensures.told delay (c.start.ensures.went.gives delay is) (still_told _ _ _ c.start.ensures.went told) in
      tries_both _ _ _ _ tt c.in-Ok-authenticate.login (c.in-Ok.ensures.told delay is told) (rw c.start.ensures.went.players at next);
  others = λ number other. c.authenticate.ensures.others number other ∙ c.start.ensures.others number other;
  went = went_on _ _ _ _ c.start.ensures.went c.authenticate.ensures.went;
}
