use Rattle.std.proofs.Common.{◌+◌, List, ap, ◌∙◌, drop}
use Rattle.pam_outside.specs.Files.{VaultState}
use Rattle.random_config.specs.declared.files.RandomFile.{RandomFile}
use Rattle.cmd_generate.specs.Placing.{placed}
use Rattle.cmd_generate.proofs.FileSequenceFacts.{goes_on, next_file, some_after, stops_at}
use Rattle.cmd_generate.proofs.placing.place_files.Goals as goal

pub returns-in-Err-clause-told : goal.returns-in-Err-clause-told
returns-in-Err-clause-told g c = λ tells.
    let was = c.loop-file.invariant in
    let before : VaultState = (goal.Vault-dyn g c.loop-file.vault.now).vault_holds c.loop-file.vault.now.1 in
    let past_end : VaultState = (goal.Vault-dyn g (c.loop-file.vault.now.0, c.place_file.new.vault)).vault_holds c.place_file.new.vault in
    let next = next_file _ _ _ c.loop-file-test.true c.file-item.is in
    stops_at c.file-item.result (drop (c.loop-file.file-index + 1) c.args.files.now) before past_end c.args.files.now _
    (was.told tells ∙ ap (λ (files : List RandomFile). placed files before) next) (λ u some. was.some tells u (rw next some))
    c.in-Err.refuse (c.in-Err.ensures.told (was.tells ∙ tells))

pub loop-file-preserved : goal.loop-file-preserved
loop-file-preserved g c =
    let was = c.loop-file.invariant in
    let before : VaultState = (goal.Vault-dyn g c.loop-file.vault.now).vault_holds c.loop-file.vault.now.1 in
    let past_end : VaultState = (goal.Vault-dyn g (c.loop-file.vault.now.0, c.place_file.new.vault)).vault_holds c.place_file.new.vault in
    record {
      tells = c.place_file.ensures.tells ∙ was.tells;
      told = λ tells.
          let here = c.in-Ok.ensures.told (was.tells ∙ tells) in
          was.told tells ∙ rw (next_file _ _ _ c.loop-file-test.true c.file-item.is)
          (goes_on c.file-item.result (drop (c.loop-file.file-index + 1) c.args.files.now) before past_end here.0 here.1);
      some = λ tells u some.
          let here = c.in-Ok.ensures.told (was.tells ∙ tells) in
          let more = some_after c.file-item.result (drop (c.loop-file.file-index + 1) c.args.files.now) before past_end here.0 here.1 u some in
          was.some tells u (rw (next_file _ _ _ c.loop-file-test.true c.file-item.is) more);
    }
