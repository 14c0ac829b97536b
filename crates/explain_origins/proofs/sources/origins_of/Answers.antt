use Rattle.explain_origins.proofs.Since.{adds_since, other_then, own_alone}
use Rattle.std.proofs.Common.{◌∙◌}
use Rattle.explain_origins.proofs.sources.origins_of.Goals as goal

pub returns-then-any-clause-told : goal.returns-then-any-clause-told
returns-then-any-clause-told g c = λ tells. own_alone _ _ _ _ _ c.if-any.true c.new-origins.ensures (c.in_ok-any.ensures.told tells)

pub returns-clause-told : goal.returns-clause-told
returns-clause-told g c = λ tells.
    let first = (goal.Vault-dyn g c.args.vault.now).vault_holds c.args.vault.now.1 in
    let mid = (goal.Vault-dyn g (c.args.vault.now.0, c.add_file.new.vault)).vault_holds c.add_file.new.vault in
    other_then _ _ _ _ _ _ _ c.if-any.false c.new-origins.ensures (c.in_ok-any.ensures.told tells)
    (adds_since _ _ _ c.args.root.now first mid 0 c.args.rule_type c.args.files.now.other (c.in_ok-any.ensures.stays tells) (c.in_ok-add_file.ensures.told (c.in_ok-any.ensures.tells ∙ tells)))
