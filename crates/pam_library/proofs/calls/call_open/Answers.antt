use Rattle.std.proofs.Common.{◌≡◌, Err, refl, sym, ap, ◌∙◌, rules}
use Rattle.pam_handle.specs.pam_room.specs.Plain.{plain_room, plain_world}
use Rattle.pam_handle.specs.Plain.{plain_handle}
use Rattle.pam_library.proofs.StackCallFacts.{delay_gives, only_of, stack_failed, stack_ran, stack_refused, told_of, world_not}
use Rattle.pam_library.proofs.OutOfMemoryFacts.{stops_plain}
use Rattle.pam_library.proofs.Within.{inside_goes}
use Rattle.pam_library.proofs.CallTraceFacts.{ran_traced}
use Rattle.pam_library.specs.Outcome.{PlainOutcome, plain_outcome}
use Rattle.pam_library.proofs.SettingCallFacts.{requests_delay, switches_delay}
use Rattle.pam_library.proofs.Quietly.{anyway}
use Rattle.pam_library.proofs.calls.call_open.Goals as goal

pub returns-in-SetItem-clause-called : goal.returns-in-SetItem-clause-called
returns-in-SetItem-clause-called g c = record {
  still_tells = c.set_item.ensures.tells;
  world_tells = refl;
  goes = rw c.in-SetItem.is (inside_goes _ _ _ _ _ _ _ _ _ _ _ refl c.nothing_grows.ensures c.requires.told c.requires.ready.0 c.requires.ready.1.none_gone c.receipts_in-filed.ensures c.set_item.ensures.goes);
  world = λ leaves. refl;
}

pub returns-in-GetItem-clause-called : goal.returns-in-GetItem-clause-called
returns-in-GetItem-clause-called g c = record {
  still_tells = refl;
  world_tells = refl;
  goes = rw c.in-GetItem.is (inside_goes _ _ _ _ _ _ _ _ _ _ _ refl c.nothing_grows.ensures c.requires.told c.requires.ready.0 c.requires.ready.1.none_gone c.receipts_in-filed.ensures c.get_item.ensures);
  world = λ leaves. refl;
}

pub returns-in-PutEnv-clause-called : goal.returns-in-PutEnv-clause-called
returns-in-PutEnv-clause-called g c = record {
  still_tells = c.put_env.ensures.tells;
  world_tells = refl;
  goes = rw c.in-PutEnv.is (inside_goes _ _ _ _ _ _ _ _ _ _ _ refl c.nothing_grows.ensures c.requires.told c.requires.ready.0 c.requires.ready.1.none_gone c.receipts_in-filed.ensures c.put_env.ensures.goes);
  world = λ leaves. refl;
}

pub returns-in-GetEnv-clause-called : goal.returns-in-GetEnv-clause-called
returns-in-GetEnv-clause-called g c = record {
  still_tells = refl;
  world_tells = refl;
  goes = rw c.in-GetEnv.is (inside_goes _ _ _ _ _ _ _ _ _ _ _ refl c.nothing_grows.ensures c.requires.told c.requires.ready.0 c.requires.ready.1.none_gone c.receipts_in-filed.ensures c.get_env.ensures);
  world = λ leaves. refl;
}

pub returns-in-EnvList-clause-called : goal.returns-in-EnvList-clause-called
returns-in-EnvList-clause-called g c = record {
  still_tells = refl;
  world_tells = refl;
  goes = rw c.in-EnvList.is (inside_goes _ _ _ _ _ _ _ _ _ _ _ refl c.nothing_grows.ensures c.requires.told c.requires.ready.0 c.requires.ready.1.none_gone c.receipts_in-filed.ensures c.list_env.ensures);
  world = λ leaves. refl;
}

pub returns-in-FailDelay-clause-called : goal.returns-in-FailDelay-clause-called
returns-in-FailDelay-clause-called g c = record {
  still_tells = c.fail_delay.ensures.tells;
  world_tells = refl;
  goes = rw c.in-FailDelay.is (inside_goes _ _ _ _ _ _ _ _ _ _ _ refl c.nothing_grows.ensures c.requires.told c.requires.ready.0 c.requires.ready.1.none_gone c.receipts_in-filed.ensures
      (requests_delay _ _ _ _ c.code.result c.fail_delay.ensures.request c.code.ensures.plain));
  world = λ leaves. refl;
}

pub returns-in-DelayFn-clause-called : goal.returns-in-DelayFn-clause-called
returns-in-DelayFn-clause-called g c = record {
  still_tells = c.set_delay.ensures.tells;
  world_tells = refl;
  goes = rw c.in-DelayFn.is (inside_goes _ _ _ _ _ _ _ _ _ _ _ refl c.nothing_grows.ensures c.requires.told c.requires.ready.0 c.requires.ready.1.none_gone c.receipts_in-filed.ensures
      (switches_delay _ _ _ _ c.code-in-DelayFn.result c.set_delay.ensures.on c.code-in-DelayFn.ensures.plain));
  world = λ leaves. refl;
}

pub returns-in-SetItem-clause-no_nap : goal.returns-in-SetItem-clause-no_nap
returns-in-SetItem-clause-no_nap g c = anyway c.set_item.result refl

pub returns-in-GetItem-clause-no_nap : goal.returns-in-GetItem-clause-no_nap
returns-in-GetItem-clause-no_nap g c = anyway c.get_item.result refl

pub returns-in-PutEnv-clause-no_nap : goal.returns-in-PutEnv-clause-no_nap
returns-in-PutEnv-clause-no_nap g c = anyway c.put_env.result refl

pub returns-in-GetEnv-clause-no_nap : goal.returns-in-GetEnv-clause-no_nap
returns-in-GetEnv-clause-no_nap g c = anyway c.get_env.result refl

pub returns-in-EnvList-clause-no_nap : goal.returns-in-EnvList-clause-no_nap
returns-in-EnvList-clause-no_nap g c = anyway c.list_env.result refl

pub returns-in-Reply-clause-no_nap : goal.returns-in-Reply-clause-no_nap
returns-in-Reply-clause-no_nap g c = anyway c.offer_open.result refl

-- ---- a stack call

pub returns-in-Some-refusal-clause-called : goal.returns-in-Some-refusal-clause-called
returns-in-Some-refusal-clause-called g c = record {
  still_tells = refl;
  world_tells = refl;
  goes = stack_refused _ _ _ _ _ c.args.call.now c.in-Some.func c.in-Some.flags (sym c.in-Some.ensures) _ _ c.only.result c.in-Some-refusal.refused c.nothing_grows.ensures c.requires.told c.requires.ready.0 c.requires.ready.1.none_gone
      (sym c.refusal.ensures ∙ c.in-Some-refusal.is)
      (only_of c.only.result _ _ _ c.only.ensures.plain c.receipts_in-filed.ensures);
  world = λ leaves. refl;
}

pub returns-in-Some-clause-called : goal.returns-in-Some-clause-called
returns-in-Some-clause-called g c = record {
  still_tells = search rules;
  world_tells = c.call.ensures.world_tells;
  goes = stack_ran _ _ _ _ _ c.args.call.now c.in-Some.func c.in-Some.flags (sym c.in-Some.ensures) _ _ c.telling.result c.in_ok-code.code _ _ _ c.requires.told c.requires.ready.0 (sym c.refusal.ensures ∙ c.in_default-refusal.is)
      (λ number_of given all. c.in_ok-code.ensures.told number_of (delay_gives c.in-Some.func _ number_of given) all) c.call.ensures.sound c.take_told-told.ensures.emptied
      (told_of c.telling.result _ _ _ _ _ _ (plain_handle (plain_room (λ b. (goal.Conv-dyn g (b.vtable, b.value)).conv_holds b.value)) c.call.new.self) c.telling.ensures.plain c.receipts_in-filed.ensures c.take_told-told.ensures.said c.take_told-told.ensures.trail c.take_told-told.ensures.wait)
      (ran_traced c.in-Some.func c.in-Some.flags _ (plain_handle (plain_room (λ b. (goal.Conv-dyn g (b.vtable, b.value)).conv_holds b.value)) c.call.new.self) (plain_outcome c.telling.result) c.in_ok-code.code c.args.call.now (sym c.in-Some.ensures) _ c.requires.told c.take_told-told.ensures.emptied
      (ap (λ (o : PlainOutcome). o.trail) c.telling.ensures.plain ∙ c.take_told-told.ensures.trail) (ap (λ (o : PlainOutcome). o.answer) c.telling.ensures.plain)
      c.in_ok-code.ensures.left c.in_ok-code.ensures.by_trail);
  world = λ leaves. absurd (world_not c.args.call.now c.in-Some.func c.in-Some.flags (sym c.in-Some.ensures) (plain_handle (plain_room (λ b. (goal.Conv-dyn g (b.vtable, b.value)).conv_holds b.value)) c.args.handle.now) (sym c.refusal.ensures ∙ c.in_default-refusal.is) leaves);
}

pub returns-in_err-code-clause-called : goal.returns-in_err-code-clause-called
returns-in_err-code-clause-called g c =
    let plain = plain_world (λ b. (goal.Vault-dyn g (b.vtable, b.value)).vault_holds b.value) (λ b. (goal.Clock-dyn g (b.vtable, b.value)).clock_holds b.value) (λ b. (goal.Nap-dyn g (b.vtable, b.value)).nap_holds b.value) in
    let answered : c.from_residual.result ≡ Err c.in_err-code.field-0.0 = search rules in
    record {
      still_tells = c.call.ensures.tells;
      world_tells = c.call.ensures.world_tells;
      goes = rw answered (stack_failed _ _ _ _ _ c.args.call.now c.in-Some.func c.in-Some.flags (sym c.in-Some.ensures) _ _ c.in_err-code.field-0.0 _ _ c.requires.told c.requires.ready.0 (sym c.refusal.ensures ∙ c.in_default-refusal.is)
          c.in_err-code.ensures.err (stops_plain c.in-Some.func c.in-Some.flags _ (λ kept. ap plain kept) c.in_err-code.ensures.stopped) c.call.ensures.sound);
      world = λ leaves. absurd (world_not c.args.call.now c.in-Some.func c.in-Some.flags (sym c.in-Some.ensures) (plain_handle (plain_room (λ b. (goal.Conv-dyn g (b.vtable, b.value)).conv_holds b.value)) c.args.handle.now) (sym c.refusal.ensures ∙ c.in_default-refusal.is) leaves);
    }
