use Rattle.std.proofs.Common.{refl, rules}
use Rattle.pam_library.proofs.Within.{first_of, second_of}
use Rattle.pam_library.proofs.StartCallFacts.{start_of, start_opens, start_refuses}
use Rattle.pam_library.proofs.Quietly.{refused_quietly}
use Rattle.pam_library.proofs.start.start.Goals as goal

pub returns-in-Ok-clause-called : goal.returns-in-Ok-clause-called
returns-in-Ok-clause-called g c = record {
  calls = record {
    still_tells = search rules;
    world_tells = search rules;
    goes = start_of _ _ _ _ _ c.args.number c.args.service.now c.bytes.result.now c.args.user.now _ _ _ _ _ _ c.bytes.ensures c.bytes_of.ensures
        (rw c.open.ensures.world
        (start_opens _ _ _ _ _ c.args.number _ _ _ _ _ (rw c.in-Ok.ensures.others refl) _ c.in-Ok.ensures.fresh (λ all. c.in-Ok.ensures.told (first_of _ _ (first_of _ _ (second_of _ _ all)))) _ _ _
        c.receipts_in-filed_from.ensures c.open.ensures.opened));
    world = λ leaves. absurd (cc);
  };
  counts = search rules;
  hides_none = search rules;
}

pub returns-in-Err-clause-called : goal.returns-in-Err-clause-called
returns-in-Err-clause-called g c = record {
  calls = record {
    still_tells = search rules;
    world_tells = search rules;
    goes = start_of _ _ _ _ _ c.args.number c.args.service.now c.bytes.result.now c.args.user.now _ _ _ _ _ _ c.bytes.ensures c.bytes_of.ensures
        (start_refuses _ _ _ _ _ c.args.number _ _ _ _ _ (rw c.in-Err.ensures.others refl) c.in-Err.refused.why _ _ _ c.receipts_in-filed_from.ensures
        (λ all. c.in-Err.ensures.told (first_of _ _ (first_of _ _ (second_of _ _ all)))) c.refuse.ensures.outcome (rw (← c.in-Err.ensures.given_back) c.refuse.ensures.slot));
    world = λ leaves. absurd (cc);
  };
  counts = search rules;
  hides_none = refused_quietly _ c.in-Err.refused.why _ _ _ c.refuse.ensures.outcome c.in-Err.ensures.faults;
}
