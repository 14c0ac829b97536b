use Rattle.std.proofs.Common.{◌∙◌, rules, ap}
use Rattle.data_cleanup.specs.DataList.{PlainDataList}
use Rattle.pam_room.specs.declared.transaction.Transaction.{Transaction}
use Rattle.mod_basic.specs.Request.{plain_request, request_of}
use Rattle.mod_basic.proofs.ProbeStateFacts.{first_of, gone_on, said_on}
use Rattle.mod_basic.proofs.pam_probe.do_all.Goals as goal

pub returns-in_err-do_request-clause-data_handle : goal.returns-in_err-do_request-clause-data_handle
returns-in_err-do_request-clause-data_handle g c =
    let midway = c.loop-rest.invariant.midway in
    ap (λ (l : PlainDataList). l.handle) c.in_err-do_request.ensures.none_set.0 ∙ c.set_data_are_sets.ensures.handle _ midway.births _ _ _ _ midway.set

pub returns-clause-data_handle : goal.returns-clause-data_handle
returns-clause-data_handle g c =
    let midway = c.loop-rest.invariant.midway in
    c.set_data_are_sets.ensures.handle _ midway.births _ _ _ _ midway.set

pub loop-rest-preserved : goal.loop-rest-preserved
loop-rest-preserved g c =
    let midway = c.loop-rest.invariant.midway in
    let serving = ap (λ (t : Transaction). t.serving) c.loop-rest.invariant.others in
    let sets = rw serving at c.in_ok-do_request.ensures.sets in
    record {
      midway = gone_on _ _ _ _ _ _ _ _ c.arg-item.result (plain_request c.request_in-request.result) _ _ _ _ _ _ midway
          (first_of _ c.arg-item.result c.in-len1-up.len_at_least c.arg-item.is)
          (c.request_in-request.ensures ∙ ap request_of c.bytes.ensures)
          (c.setting_goes_on.ensures _ _ _ _ _ _ _ _ _ midway.set sets)
          (λ t. c.in_ok-do_request.ensures.told (c.loop-rest.invariant.tells ∙ t));
      tells = search rules;
      delay = search rules;
      said = said_on _ _ _ c.loop-rest.invariant.said c.do_request.ensures.said;
      others = search rules;
    }
