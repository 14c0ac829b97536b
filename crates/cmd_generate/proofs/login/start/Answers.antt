use Rattle.std.proofs.Common.{refl}
use Rattle.cmd_generate.proofs.FirstSlotFacts.{start_failed, start_unbegun, starts_done, starts_refused}
use Rattle.cmd_run.proofs.RunPartFacts.{went_nowhere, went_once}
use Rattle.cmd_run.proofs.ItemEffectFacts.{failed_place, failed_stack}
use Rattle.cmd_generate.proofs.CallSequenceFacts.{start_ends_none}
use Rattle.cmd_generate.proofs.login.start.Goals as goal

pub apply-requires-clause-fit : goal.apply-requires-clause-fit
apply-requires-clause-fit g c = rw c.in_ok-step.ensures refl

pub returns-in_err-step : goal.returns-in_err-step
returns-in_err-step g c = record {
  told = λ delay is told. start_unbegun _ _ c.from_residual.result c.from_residual.ensures.1;
  others = λ number other. refl;
  went = went_nowhere _ _ c.requires.sound;
}

pub returns-in-Err : goal.returns-in-Err
returns-in-Err g c = record {
  told = λ delay is told.
      start_failed _ _ _ _ c.in_ok-step.ensures (record {
        place = failed_place _ _ _ _ _ told c.in-Err.ensures.fails.fails;
        leaves = c.apply.ensures.leaves;
        stops = failed_stack _ _ _ _ _ _ _ told c.in-Err.ensures.fails.stops;
        world = λ h. rw (c.apply.ensures.world h) refl;
        nap = rw c.in-Err.ensures.fails.no_nap refl;
      });
  others = rw c.in_ok-step.ensures at c.apply.ensures.leaves.others;
  went = went_once _ _ _ (rw c.apply.ensures.gear refl) c.apply.ensures.keeps.tells c.apply.ensures.keeps.world_tells (λ number gives. rw c.apply.ensures.gear gives)
      (λ number gives. rw c.apply.ensures.gear at gives)
      _ (rw c.in_ok-step.ensures at c.apply.ensures.keeps.moves) (start_ends_none _) c.apply.ensures.keeps.sound;
}

pub returns-in-Some : goal.returns-in-Some
returns-in-Some g c = record {
  told = λ delay is told.
      starts_refused _ _ _ _ _ (rw c.in_ok-step.ensures at (c.in-Ok.ensures.told delay is told)) c.in-Some.fault c.in-Some.ensures;
  others = rw c.in_ok-step.ensures at c.apply.ensures.leaves.others;
  went = went_once _ _ _ (rw c.apply.ensures.gear refl) c.apply.ensures.keeps.tells c.apply.ensures.keeps.world_tells (λ number gives. rw c.apply.ensures.gear gives)
      (λ number gives. rw c.apply.ensures.gear at gives)
      _ (rw c.in_ok-step.ensures at c.apply.ensures.keeps.moves) (start_ends_none _) c.apply.ensures.keeps.sound;
}

pub returns : goal.returns
returns g c = record {
  told = λ delay is told.
      starts_done _ _ _ _ _ (rw c.in_ok-step.ensures at (c.in-Ok.ensures.told delay is told)) tt c.in-None.ensures;
  others = rw c.in_ok-step.ensures at c.apply.ensures.leaves.others;
  went = went_once _ _ _ (rw c.apply.ensures.gear refl) c.apply.ensures.keeps.tells c.apply.ensures.keeps.world_tells (λ number gives. rw c.apply.ensures.gear gives)
      (λ number gives. rw c.apply.ensures.gear at gives)
      _ (rw c.in_ok-step.ensures at c.apply.ensures.keeps.moves) (start_ends_none _) c.apply.ensures.keeps.sound;
}
