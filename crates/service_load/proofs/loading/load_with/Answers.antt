use Rattle.std.proofs.Common.{◌∙◌}
use Rattle.service_load.proofs.StackTreeFacts.{loads_all}
use Rattle.service_load.proofs.loading.load_with.Goals as goal

pub returns-in-Ok-clause-told : goal.returns-in-Ok-clause-told
returns-in-Ok-clause-told g c = λ tells.
    let told = c.in-Ok.ensures.told tells in
    let loads = c.load_from.ensures.told (c.in-Ok.ensures.tells ∙ tells) in
    loads_all c.load_from.result ((goal.Vault-dyn g c.args.vault.now).vault_holds c.args.vault.now.1)
    ((goal.Vault-dyn g (c.args.vault.now.0, c.is_directory.new.vault)).vault_holds c.is_directory.new.vault)
    ((goal.Vault-dyn g (c.args.vault.now.0, c.load_from.new.vault)).vault_holds c.load_from.new.vault)
    c.args.root.now c.args.service.now c.bytes.result.now c.in-Ok.found told.0 told.1 (c.bytes.ensures ∙ c.in_ok-folder.ensures) (c.in-Ok.ensures.counts tells) loads
