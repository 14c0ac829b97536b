use Rattle.explain.proofs.OutputFacts.{given_by, shown_input}
use Rattle.explain.proofs.program.explained_input.Goals as goal

pub returns-clause-told : goal.returns-clause-told
returns-clause-told g c = λ tells reads.
    let old = (goal.Vault-dyn g c.args.vault.now).vault_holds c.args.vault.now.1 in
    let new = (goal.Vault-dyn g (c.args.vault.now.0, c.explained_report.new.vault)).vault_holds c.explained_report.new.vault in
    given_by old new c.args.root.now c.args.service.now _ _ c.explained_report.result c.in_ok-report.report _ (c.in_ok-report.ensures.read reads)
    c.in_ok-report.ensures.short c.in_ok-report.ensures.unread (c.explained_report.ensures.told tells)

pub returns-clause-shows : goal.returns-clause-shows
returns-clause-shows g c =
    shown_input c.explained_report.result c.in_ok-report.report _ _ _ _ c.in_ok-report.ensures.unread c.explained_report.ensures.shows
