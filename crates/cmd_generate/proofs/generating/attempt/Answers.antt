use Rattle.std.proofs.Common.{refl, ◌∙◌}
use Rattle.cmd_run.specs.pam_room.specs.Plain.{plain_world}
use Rattle.cmd_run.specs.pam_room.specs.State.{PlainWorld}
use Rattle.cmd_run.specs.State.{state_of}
use Rattle.cmd_generate.proofs.LoginAttemptFacts.{all_placed, not_begun, not_generated, not_placed, vault_of}
use Rattle.cmd_generate.proofs.FirstSlotFacts.{both_tell, login_unbegun}
use Rattle.cmd_run.proofs.RunPartFacts.{went_on, went_quietly}
use Rattle.cmd_generate.proofs.generating.attempt.Goals as goal

pub returns-in_err-set_process : goal.returns-in_err-set_process
returns-in_err-set_process g c = record {
  told = λ delay is told.
      let old : PlainWorld = plain_world (λ b. (goal.Vault-dyn g (b.vtable, b.value)).vault_holds b.value)
      (λ b. (goal.Clock-dyn g (b.vtable, b.value)).clock_holds b.value) (λ b. (goal.Nap-dyn g (b.vtable, b.value)).nap_holds b.value) c.args.world.now in
      login_unbegun _ _ _ c.from_residual.result c.from_residual.ensures.1
      (not_begun _ c.args.seed c.args.lines (state_of _ old) _ (rw c.in_err-set_process.ensures.err refl));
  none_open = c.requires.idle.none_open;
  went = went_quietly _ _ _ refl refl c.set_process.ensures.tells (λ number gives. gives) (λ number gives. gives) refl
      c.set_process.ensures.ledger c.requires.idle.sound;
}

pub returns-in_err-files : goal.returns-in_err-files
returns-in_err-files g c = record {
  told = λ delay is told.
      let old : PlainWorld = plain_world (λ b. (goal.Vault-dyn g (b.vtable, b.value)).vault_holds b.value)
      (λ b. (goal.Clock-dyn g (b.vtable, b.value)).clock_holds b.value) (λ b. (goal.Nap-dyn g (b.vtable, b.value)).nap_holds b.value) c.args.world.now in
      login_unbegun _ _ _ c.from_residual-in_err-files.result c.from_residual-in_err-files.ensures.1
      (not_generated _ c.args.seed c.args.lines (state_of _ old) _ c.in_ok-set_process.ensures.ok);
  none_open = c.requires.idle.none_open;
  went = went_quietly _ _ _ refl refl c.set_process.ensures.tells (λ number gives. gives) (λ number gives. gives) refl
      c.set_process.ensures.ledger c.requires.idle.sound;
}

pub returns-in-Err : goal.returns-in-Err
returns-in-Err g c = record {
  told = λ delay is told.
      let old : PlainWorld = plain_world (λ b. (goal.Vault-dyn g (b.vtable, b.value)).vault_holds b.value)
      (λ b. (goal.Clock-dyn g (b.vtable, b.value)).clock_holds b.value) (λ b. (goal.Nap-dyn g (b.vtable, b.value)).nap_holds b.value) c.args.world.now in
      not_placed _ c.args.seed c.args.lines (state_of _ old) _ _ _ _ c.in_ok-files.ensures c.in_ok-set_process.ensures.ok c.place_in_world.ensures.rest
      c.in-Err.refuse
      (rw c.deref.ensures.value at (c.in-Err.ensures.told (vault_of _ _ _ _ (both_tell _ _ _ _ refl c.set_process.ensures.tells told))));
  none_open = c.requires.idle.none_open;
  went = went_quietly _ _ _ refl refl (c.place_in_world.ensures.tells ∙ c.set_process.ensures.tells) (λ number gives. gives)
      (λ number gives. gives) refl (rw (c.place_in_world.ensures.process, c.set_process.ensures.ledger) refl) c.requires.idle.sound;
}

pub returns : goal.returns
returns g c = record {
  told = λ delay is told.
      let old : PlainWorld = plain_world (λ b. (goal.Vault-dyn g (b.vtable, b.value)).vault_holds b.value)
      (λ b. (goal.Clock-dyn g (b.vtable, b.value)).clock_holds b.value) (λ b. (goal.Nap-dyn g (b.vtable, b.value)).nap_holds b.value) c.args.world.now in
      all_placed _ c.args.seed c.args.lines (state_of _ old) _ _ _ _ c.in_ok-files.ensures c.in_ok-set_process.ensures.ok c.place_in_world.ensures.rest tt
      c.log_in.result _
      (rw c.deref.ensures.value at (c.in-Ok.ensures.told (vault_of _ _ _ _ (both_tell _ _ _ _ refl c.set_process.ensures.tells told))))
      (c.log_in.ensures.told delay is (both_tell _ _ _ _ refl (c.place_in_world.ensures.tells ∙ c.set_process.ensures.tells) told));
  none_open = c.log_in.ensures.none_open;
  went = went_on _ _ _ _ (went_quietly _ _ _ refl refl (c.place_in_world.ensures.tells ∙ c.set_process.ensures.tells) (λ number gives. gives) (λ number gives. gives)
      refl (rw (c.place_in_world.ensures.process, c.set_process.ensures.ledger) refl) c.requires.idle.sound)
      c.log_in.ensures.went;
}
