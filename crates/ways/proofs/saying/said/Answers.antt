use Rattle.std.proofs.Common.{◌∙◌}
use Rattle.service_load.specs.Trees.{stacks_of_trees}
use Rattle.ways.proofs.ServiceOutputFacts.{loaded_shows, loaded_so, refused_shows, refused_so}
use Rattle.ways.proofs.saying.said.Goals as goal

pub returns-in-Ok-clause-told : goal.returns-in-Ok-clause-told
returns-in-Ok-clause-told g c = λ tells.
    let first = (goal.Vault-dyn g c.args.vault.now).vault_holds c.args.vault.now.1 in
    let mid = (goal.Vault-dyn g (c.args.vault.now.0, c.load.new.vault)).vault_holds c.load.new.vault in
    let new = (goal.Vault-dyn g (c.args.vault.now.0, c.said_by.new.vault)).vault_holds c.said_by.new.vault in
    loaded_so c.said_by.result c.in-Ok.trees first mid new c.args.root.now c.args.service.now c.args.table.now
    (c.in-Ok.ensures.told tells) (c.in-Ok.ensures.stays tells) (c.said_by.ensures.told (c.in-Ok.ensures.tells ∙ tells))

pub returns-in-Err-clause-told : goal.returns-in-Err-clause-told
returns-in-Err-clause-told g c = λ tells.
    let first = (goal.Vault-dyn g c.args.vault.now).vault_holds c.args.vault.now.1 in
    let mid = (goal.Vault-dyn g (c.args.vault.now.0, c.load.new.vault)).vault_holds c.load.new.vault in
    refused_so c.refused_by.result c.in-Err.stop first mid c.args.root.now c.args.service.now c.args.table.now (c.in-Err.ensures.told tells)
    c.refused_by.ensures

pub returns-in-Ok-clause-shows : goal.returns-in-Ok-clause-shows
returns-in-Ok-clause-shows g c =
    loaded_shows c.said_by.result c.args.service.now (stacks_of_trees c.in-Ok.trees) c.args.table.now _ _ _ c.in-Ok.ensures.faults c.said_by.ensures.shows

pub returns-in-Err-clause-shows : goal.returns-in-Err-clause-shows
returns-in-Err-clause-shows g c = refused_shows c.refused_by.result c.in-Err.stop c.args.service.now c.args.table.now _ _ c.in-Err.ensures.faults
    c.refused_by.ensures
