use Rattle.std.proofs.Common.{◌∙◌, rules, ap}
use Rattle.data_cleanup.specs.DataList.{PlainDataList}
use Rattle.data_cleanup.specs.declared.receipt.Receipt.{Receipt}
use Rattle.pam_room.proofs.Notes.{by_owner, gone_first}
use Rattle.pam_room.proofs.sweep.sweep.Goals as goal

pub loop-datum-preserved : goal.loop-datum-preserved
loop-datum-preserved g c =
    let took = c.in-Some.ensures in
    let live = ap (λ (l : PlainDataList). l.live) took.1 in
    record {
      cleaning = c.cleanup_goes_on.ensures _ _ _ _ _ _ _ _ c.in-Some.datum _ c.loop-datum.invariant.cleaning took.0
          (by_owner _ _ _ _ _ c.in-Some.datum _ c.owner-owner.ensures (search rules) c.index-mods-owner.is c.tidy_by.ensures) c.file.ensures;
      live = live ∙ c.loop-datum.invariant.live;
      handle = ap (λ (l : PlainDataList). l.handle) took.1 ∙ c.loop-datum.invariant.handle;
      awaiting = c.next_awaits_cleanup.ensures.others _ _ _ _ _ c.in-Some.datum _ c.loop-datum.invariant.awaiting (gone_first _ _ _ _ _ took.0 live) (ap (λ (r : Receipt). r.id) c.tidy_by.ensures) c.file.ensures;
    }
