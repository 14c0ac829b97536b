use Rattle.std.proofs.Common.{refl, rules}
use Rattle.cmd_run.proofs.Lowest.{some_ends, none_stays, receipts_by}
use Rattle.cmd_run.proofs.RunPartFacts.{went_once}
use Rattle.cmd_run.proofs.CallSequenceFacts.{closing_ends}
use Rattle.cmd_run.proofs.closing.end_next.Goals as goal

pub returns : goal.returns
returns g c = record {
  some = some_ends _ _ _ _ _ _ _ (rw c.code_number.ensures at c.close_one.ensures.closes);
  none = search rules;
  filed = receipts_by _ c.args.status _ _ _ _ _ (rw c.code_number.ensures at c.close_one.ensures.closes);
  stays = none_stays _ c.args.status _ _ _ _ _ (rw c.code_number.ensures at c.close_one.ensures.closes);
  went = went_once _ _ _ (rw c.close_one.ensures.gear refl) c.close_one.ensures.keeps.tells c.close_one.ensures.keeps.world_tells
      (λ number gives. rw c.close_one.ensures.gear gives) (λ number gives. rw c.close_one.ensures.gear at gives)
      _ c.close_one.ensures.keeps.moves (closing_ends c.args.status _ _ c.code_number.ensures) c.close_one.ensures.keeps.sound;
}
