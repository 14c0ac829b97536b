use Rattle.explain.specs.Program.{asked_of}
use Rattle.explain.proofs.OutputFacts.{given_for, usage_given}
use Rattle.explain.proofs.ExitStatusFacts.{asked_causes, usage_causes}
use Rattle.explain.proofs.program.output_for.Goals as goal

pub returns-in-Some-clause-told : goal.returns-in-Some-clause-told
returns-in-Some-clause-told g c = λ tells reads.
    let old = (goal.Vault-dyn g c.args.vault.now).vault_holds c.args.vault.now.1 in
    let new = (goal.Vault-dyn g (c.args.vault.now.0, c.explained_input.new.vault)).vault_holds c.explained_input.new.vault in
    given_for (asked_of c.args.words.now) old new _ _ _ c.explained_input.result c.in-Some.place.root.now c.in-Some.place.service.now
    c.in-Some.ensures (c.explained_input.ensures.told tells reads)

pub returns-in-None-clause-told : goal.returns-in-None-clause-told
returns-in-None-clause-told g c = λ tells reads.
    let old = (goal.Vault-dyn g c.args.vault.now).vault_holds c.args.vault.now.1 in
    usage_given (asked_of c.args.words.now) old old _ _ _ c.line_by.result c.in-None.ensures c.line_by.ensures

pub returns-in-Some-clause-causes : goal.returns-in-Some-clause-causes
returns-in-Some-clause-causes g c = asked_causes _ _ _ _ c.explained_input.result (asked_of c.args.words.now) _ c.in-Some.ensures
    c.explained_input.ensures.shows

pub returns-in-None-clause-causes : goal.returns-in-None-clause-causes
returns-in-None-clause-causes g c = usage_causes _ _ _ _ c.line_by.result (asked_of c.args.words.now) c.in-None.ensures c.line_by.ensures
