use Rattle.std.proofs.Common.{refl}
use Rattle.cmd_generate.proofs.FirstSlotFacts.{authenticate_failed, authenticates}
use Rattle.cmd_run.proofs.RunPartFacts.{went_once}
use Rattle.cmd_run.proofs.ItemEffectFacts.{failed_place, failed_stack}
use Rattle.cmd_generate.proofs.CallSequenceFacts.{authenticate_ends_none}
use Rattle.cmd_generate.proofs.login.authenticate.Goals as goal

pub apply-requires-clause-fit : goal.apply-requires-clause-fit
apply-requires-clause-fit g c = rw c.authenticate_step-step.ensures refl

pub returns-in-Err : goal.returns-in-Err
returns-in-Err g c = record {
  told = λ delay is told.
      authenticate_failed _ _ _ _ c.authenticate_step-step.ensures (record {
        place = failed_place _ _ _ _ _ told c.in-Err.ensures.fails.fails;
        leaves = c.apply.ensures.leaves;
        stops = failed_stack _ _ _ _ _ _ _ told c.in-Err.ensures.fails.stops;
        world = λ h. rw (c.apply.ensures.world h) refl;
        nap = rw c.in-Err.ensures.fails.no_nap refl;
      });
  others = rw c.authenticate_step-step.ensures at c.apply.ensures.leaves.others;
  went = went_once _ _ _ (rw c.apply.ensures.gear refl) c.apply.ensures.keeps.tells c.apply.ensures.keeps.world_tells (λ number gives. rw c.apply.ensures.gear gives)
      (λ number gives. rw c.apply.ensures.gear at gives)
      _ (rw c.authenticate_step-step.ensures at c.apply.ensures.keeps.moves) (authenticate_ends_none _) c.apply.ensures.keeps.sound;
}

pub returns : goal.returns
returns g c = record {
  told = λ delay is told.
      authenticates _ _ _ _ _ (rw c.authenticate_step-step.ensures at (c.in-Ok.ensures.told delay is told)) _ (rw (c.code_in.ensures, c.len.ensures) refl);
  others = rw c.authenticate_step-step.ensures at c.apply.ensures.leaves.others;
  went = went_once _ _ _ (rw c.apply.ensures.gear refl) c.apply.ensures.keeps.tells c.apply.ensures.keeps.world_tells (λ number gives. rw c.apply.ensures.gear gives)
      (λ number gives. rw c.apply.ensures.gear at gives)
      _ (rw c.authenticate_step-step.ensures at c.apply.ensures.keeps.moves) (authenticate_ends_none _) c.apply.ensures.keeps.sound;
}
