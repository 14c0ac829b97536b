use Rattle.ways.proofs.OutputFacts.{given_by, shown_input}
use Rattle.ways.proofs.program.said_input.Goals as goal

pub returns-clause-told : goal.returns-clause-told
returns-clause-told g c = λ tells reads.
    let old = (goal.Vault-dyn g c.args.vault.now).vault_holds c.args.vault.now.1 in
    let new = (goal.Vault-dyn g (c.args.vault.now.0, c.said_of_text.new.vault)).vault_holds c.said_of_text.new.vault in
    given_by old new c.args.root.now c.args.service.now _ _ c.said_of_text.result c.in_ok-table.table _ (c.in_ok-table.ensures.read reads)
    c.in_ok-table.ensures.short c.in_ok-table.ensures.unread (c.said_of_text.ensures.told tells)

pub returns-clause-shows : goal.returns-clause-shows
returns-clause-shows g c =
    shown_input c.said_of_text.result c.args.service.now c.in_ok-table.table _ _ _ _ c.in_ok-table.ensures.unread c.said_of_text.ensures.shows
