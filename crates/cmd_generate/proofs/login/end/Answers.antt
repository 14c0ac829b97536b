use Rattle.std.proofs.Common.{refl}
use Rattle.cmd_generate.proofs.FirstSlotFacts.{end_is_free, end_stays_inside, ended_is_closed, state_is}
use Rattle.cmd_run.specs.State.{setting_of}
use Rattle.cmd_run.proofs.RunPartFacts.{went_once}
use Rattle.cmd_generate.proofs.CallSequenceFacts.{end_ends}
use Rattle.cmd_generate.proofs.login.end.Goals as goal

pub unwrap-outcome-requires : goal.unwrap-outcome-requires
unwrap-outcome-requires g c = c.apply.ensures.succeeds (end_is_free c.args.status _)

pub returns : goal.returns
returns g c = record {
  ends = λ delay. state_is _ _ _ _ _ _ (rw c.unwrap-outcome.ensures at (c.apply.ensures.inside delay (end_stays_inside c.args.status _)));
  others = c.apply.ensures.leaves.others;
  closed = ended_is_closed (setting_of _ (λ code asked. 0)) _ _ _
      (state_is _ _ _ _ _ _ (rw c.unwrap-outcome.ensures at (c.apply.ensures.inside (λ code asked. 0) (end_stays_inside c.args.status _))));
  went = went_once _ _ _ (rw c.apply.ensures.gear refl) c.apply.ensures.keeps.tells c.apply.ensures.keeps.world_tells
      (λ number gives. rw c.apply.ensures.gear gives) (λ number gives. rw c.apply.ensures.gear at gives)
      _ c.apply.ensures.keeps.moves (end_ends c.args.status _) c.apply.ensures.keeps.sound;
}
