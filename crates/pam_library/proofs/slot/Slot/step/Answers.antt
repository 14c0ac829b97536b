use Rattle.std.proofs.Common.{refl, rules}
use Rattle.pam_handle.specs.pam_room.specs.Plain.{plain_room}
use Rattle.pam_handle.specs.Handle.{PlainHandle}
use Rattle.pam_handle.specs.Plain.{plain_handle}
use Rattle.pam_library.proofs.Onward.{no_fault, onward}
use Rattle.pam_library.proofs.Quietly.{anyway, never, opened_quietly}
use Rattle.pam_library.proofs.slot.Slot.step.Goals as goal

pub returns-in-End-clause-called : goal.returns-in-End-clause-called
returns-in-End-clause-called g c = rw c.in-Open.is (record {
  calls = record {
    still_tells = search rules;
    world_tells = search rules;
    goes = rw c.in-End.is (onward _ _ _ _ _ _ _ _ _ _ _ _ _ _ c.take_told-before.ensures.emptied c.take_told-before.ensures.tells (rw c.in-Open.is at c.requires.may.placed) c.end.ensures.goes);
    world = rw c.in-End.is (λ leaves. absurd (cc));
  };
  counts = no_fault _ _ _ _ _ _ _ _ _ _ _ _ _ _ c.end.ensures.goes;
  hides_none = never _ _ (c.end.ensures.goes.succeeds refl);
})

pub returns-in_default-clause-called : goal.returns-in_default-clause-called
returns-in_default-clause-called g c =
    let h : PlainHandle = plain_handle (plain_room (λ b. (goal.Conv-dyn g (b.vtable, b.value)).conv_holds b.value)) c.take_told-before.new.self in
    rw c.in-Open.is (record {
      calls = record {
        still_tells = search rules;
        world_tells = search rules;
        goes = onward _ _ _ _ _ _ _ _ _ _ _ _ _ _ c.take_told-before.ensures.emptied c.take_told-before.ensures.tells (rw c.in-Open.is at c.requires.may.placed) c.call_open-outcome.ensures.called.goes;
        world = search rules;
      };
      counts = no_fault _ _ _ _ _ _ _ _ _ _ _ _ _ _ c.call_open-outcome.ensures.called.goes;
      hides_none = anyway c.call_open-outcome.result (opened_quietly (λ w. (goal.Vault-dyn g (w.vault.vtable, w.vault.value)).vault_faults w.vault.value) h c.args.step.now.call _ _ c.call_open-outcome.ensures.called.world);
    })

pub returns-in-End-clause-no_nap : goal.returns-in-End-clause-no_nap
returns-in-End-clause-no_nap g c = never _ _ (c.end.ensures.goes.succeeds refl)

pub returns-in-Closed-clause-called : goal.returns-in-Closed-clause-called
returns-in-Closed-clause-called g c = rw c.in-Closed.is c.step_closed.ensures.called
