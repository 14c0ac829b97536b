use Rattle.std.proofs.Common.{refl, rules}
use Rattle.cmd_run.proofs.RunPartFacts.{went_once, went_so}
use Rattle.cmd_run.proofs.CallSequenceFacts.{call_ends}
use Rattle.cmd_login.proofs.CallSequenceFacts.{end_ends_as}
use Rattle.cmd_login.proofs.attempt.end_silently.Goals as goal

pub returns : goal.returns
returns g c = record {
  ended = search rules;
  others = c.apply.ensures.leaves.others;
  went = went_so _ _ (end_ends_as c.args.code c.end_call.result c.end_call.ensures) _ _
      (went_once _ _ _ (rw c.apply.ensures.gear refl) c.apply.ensures.keeps.tells c.apply.ensures.keeps.world_tells
      (λ number gives. rw c.apply.ensures.gear gives) (λ number gives. rw c.apply.ensures.gear at gives)
      _ c.apply.ensures.keeps.moves (call_ends _ _ _) c.apply.ensures.keeps.sound);
}
