use Rattle.std.proofs.Common.{◌∙◌, rules, ap}
use Rattle.data_cleanup.specs.DataList.{PlainDataList}
use Rattle.data_cleanup.specs.declared.receipt.Receipt.{Receipt}
use Rattle.pam_room.proofs.Notes.{by_owner}
use Rattle.pam_room.proofs.sweep.end_data.Goals as goal

pub loop-datum-preserved : goal.loop-datum-preserved
loop-datum-preserved g c =
    let took = c.in-Some.ensures in
    let first = c.reversed_await_cleanup.ensures.newest _ _ c.in-Some.datum took.0 in
    record {
      cleaning = c.cleanup_goes_on.ensures _ _ _ _ _ _ _ _ c.in-Some.datum _ c.loop-datum.invariant.cleaning first
          (by_owner _ _ _ _ _ c.in-Some.datum _ c.owner-owner.ensures (search rules) c.index-mods-owner.is c.tidy_by.ensures) c.file.ensures;
      gone = ap (λ (l : PlainDataList). l.gone) took.1 ∙ c.loop-datum.invariant.gone;
      awaiting = c.next_awaits_cleanup.ensures.others _ _ _ _ _ c.in-Some.datum _ c.loop-datum.invariant.awaiting first (ap (λ (r : Receipt). r.id) c.tidy_by.ensures) c.file.ensures;
    }
