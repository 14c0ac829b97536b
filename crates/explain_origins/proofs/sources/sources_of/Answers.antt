use Rattle.explain_origins.proofs.Since.{all_sources}
use Rattle.std.proofs.Common.{◌∙◌}
use Rattle.explain_origins.proofs.sources.sources_of.Goals as goal

pub returns-clause-told : goal.returns-clause-told
returns-clause-told g c = λ tells.
    let first = (goal.Vault-dyn g c.args.vault.now).vault_holds c.args.vault.now.1 in
    let v1 = (goal.Vault-dyn g (c.args.vault.now.0, c.directory_exists.new.vault)).vault_holds c.directory_exists.new.vault in
    let v2 = (goal.Vault-dyn g (c.args.vault.now.0, c.origins_of.new.vault)).vault_holds c.origins_of.new.vault in
    let v3 = (goal.Vault-dyn g (c.args.vault.now.0, c.origins_of-2.new.vault)).vault_holds c.origins_of-2.new.vault in
    let v4 = (goal.Vault-dyn g (c.args.vault.now.0, c.origins_of-3.new.vault)).vault_holds c.origins_of-3.new.vault in
    let t1 = c.in_ok-is_directory.ensures.tells ∙ tells in
    let t2 = c.in_ok-auth.ensures.tells ∙ t1 in
    let t3 = c.in_ok-account.ensures.tells ∙ t2 in
    let t4 = c.in_ok-password.ensures.tells ∙ t3 in
    all_sources c.args.root.now c.args.service.now first v1 v2 v3 v4 _ _ _ _ _ _ _
    (c.in_ok-is_directory.ensures.stays tells) (c.in_ok-auth.ensures.stays t1) (c.in_ok-account.ensures.stays t2) (c.in_ok-password.ensures.stays t3)
    (c.in_ok-is_directory.ensures.told tells) c.in_ok-files.ensures.own c.in_ok-files.ensures.other
    (c.in_ok-auth.ensures.told t1) (c.in_ok-account.ensures.told t2) (c.in_ok-password.ensures.told t3) (c.in_ok-session.ensures.told t4)
