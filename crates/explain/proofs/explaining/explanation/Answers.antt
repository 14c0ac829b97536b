use Rattle.std.proofs.Common.{◌∙◌}
use Rattle.session_audit.specs.pass_replay.specs.Retold.{stacks_in}
use Rattle.explain.proofs.ReportOutputFacts.{loaded_shows, loaded_so, refused_shows, refused_so}
use Rattle.explain.proofs.explaining.explanation.Goals as goal

pub returns-in-Ok-clause-told : goal.returns-in-Ok-clause-told
returns-in-Ok-clause-told g c = λ tells.
    let first = (goal.Vault-dyn g c.args.vault.now).vault_holds c.args.vault.now.1 in
    let mid = (goal.Vault-dyn g (c.args.vault.now.0, c.load.new.vault)).vault_holds c.load.new.vault in
    let new = (goal.Vault-dyn g (c.args.vault.now.0, c.explained_by.new.vault)).vault_holds c.explained_by.new.vault in
    loaded_so c.explained_by.result c.in-Ok.trees first mid new c.args.root.now c.args.service.now c.args.report.now
    (c.in-Ok.ensures.told tells) (c.in-Ok.ensures.stays tells) (c.explained_by.ensures.told (c.in-Ok.ensures.tells ∙ tells))

pub returns-in-Err-clause-told : goal.returns-in-Err-clause-told
returns-in-Err-clause-told g c = λ tells.
    let first = (goal.Vault-dyn g c.args.vault.now).vault_holds c.args.vault.now.1 in
    let mid = (goal.Vault-dyn g (c.args.vault.now.0, c.load.new.vault)).vault_holds c.load.new.vault in
    refused_so c.refused_by.result c.in-Err.stop first mid c.args.root.now c.args.service.now c.args.report.now (c.in-Err.ensures.told tells)
    c.refused_by.ensures

pub returns-in-Ok-clause-shows : goal.returns-in-Ok-clause-shows
returns-in-Ok-clause-shows g c =
    loaded_shows c.explained_by.result (stacks_in c.in-Ok.trees) c.args.report.now _ _ _ c.in-Ok.ensures.faults c.explained_by.ensures.shows

pub returns-in-Err-clause-shows : goal.returns-in-Err-clause-shows
returns-in-Err-clause-shows g c = refused_shows c.refused_by.result c.in-Err.stop c.args.report.now _ _ c.in-Err.ensures.faults c.refused_by.ensures
