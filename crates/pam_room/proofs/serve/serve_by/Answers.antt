use Rattle.std.proofs.Common.{◌≡◌, ◌&&◌, Err, rules, ap}
use Rattle.pam_room.proofs.ModuleRunFacts.{all_await, broken_so, served_so}
use Rattle.pam_room.proofs.ModelledObjectFacts.{all_but_last}
use Rattle.pam_room.proofs.serve.serve_by.Goals as goal

pub sweep-requires : goal.sweep-requires
sweep-requires g c =
    c.set_data_await_cleanup.ensures _ _ _ _ _ _ c.ledger_is_sound.ensures.sound c.ledger_is_sound-2.ensures.numbered c.requires.there
    (all_await _ _ c.args.room.now.transaction.datums c.requires.ready.none_gone c.requires.ready.awaiting) c.play-answer.ensures.sets

pub returns-clause-done : goal.returns-clause-done
returns-clause-done g c =
    let conv = c.args.room.now.conv in
    let vault = c.args.world.now.vault in
    let clock = c.args.world.now.clock in
    let nap = c.args.world.now.nap in
    record {
      told = λ told.
          let played = c.in_ok-code.ensures.told (all_but_last
          ((goal.Conv-dyn g (conv.vtable, conv.value)).conv_tells conv.value)
          ((goal.Vault-dyn g (vault.vtable, vault.value)).vault_tells vault.value && (goal.Clock-dyn g (clock.vtable, clock.value)).clock_tells clock.value)
          ((goal.Nap-dyn g (nap.vtable, nap.value)).nap_tells nap.value) told) in
          rw c.code_or_incomplete.ensures (served_so _ c.args.mods.now c.args.number c.index-mods-number.result _ _ _ _ c.sweep.new.datums c.sweep.new.ledger
          c.requires.there c.index-mods-number.is played (ap (λ b. (goal.Nap-dyn g (b.vtable, b.value)).nap_holds b.value) c.play-answer.ensures.nap) c.sweep.ensures.datums c.sweep.ensures.ledger);
      broken = λ told. tt;
    }

pub returns-clause-stays : goal.returns-clause-stays
returns-clause-stays g c = record {
  room_tells = search rules;
  world_tells = search rules;
  nap = search rules;
  stays = search rules;
  grows = rw (c.sweep.ensures.datums, c.sweep.ensures.ledger) (c.swept_setting_grows.ensures _ _ _ _ _ _ _ c.ledger_is_sound-2.ensures.numbered c.requires.there c.requires.ready.none_gone c.play-answer.ensures.sets);
  ready = search rules;
}

pub returns-in_err-code-clause-stays : goal.returns-in_err-code-clause-stays
returns-in_err-code-clause-stays g c = record {
  room_tells = search rules;
  world_tells = search rules;
  nap = search rules;
  stays = search rules;
  grows = rw (c.sweep.ensures.datums, c.sweep.ensures.ledger) (c.swept_setting_grows.ensures _ _ _ _ _ _ _ c.ledger_is_sound-2.ensures.numbered c.requires.there c.requires.ready.none_gone c.play-answer.ensures.sets);
  ready = search rules;
}

pub returns-in_err-code-clause-done : goal.returns-in_err-code-clause-done
returns-in_err-code-clause-done g c =
    let conv = c.args.room.now.conv in
    let vault = c.args.world.now.vault in
    let clock = c.args.world.now.clock in
    let nap = c.args.world.now.nap in
    let answered : c.from_residual.result ≡ Err c.in_err-code.field-0.0 = search rules in
    rw answered (record {
      told = λ told. tt;
      broken = λ told.
          broken_so _ c.args.mods.now c.args.number c.index-mods-number.result _ _ _ c.requires.there c.index-mods-number.is (c.in_err-code.ensures.broken (all_but_last
          ((goal.Conv-dyn g (conv.vtable, conv.value)).conv_tells conv.value)
          ((goal.Vault-dyn g (vault.vtable, vault.value)).vault_tells vault.value && (goal.Clock-dyn g (clock.vtable, clock.value)).clock_tells clock.value)
          ((goal.Nap-dyn g (nap.vtable, nap.value)).nap_tells nap.value) told));
    })
