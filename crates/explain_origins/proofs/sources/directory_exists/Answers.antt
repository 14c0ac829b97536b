use Rattle.explain_origins.proofs.FailedAccessFacts.{failing_last}
use Rattle.explain_origins.proofs.sources.directory_exists.Goals as goal

pub returns-clause-planned : goal.returns-clause-planned
returns-clause-planned g c = λ tells.
    let old = (goal.Vault-dyn g c.args.vault.now).vault_holds c.args.vault.now.1 in
    let new = (goal.Vault-dyn g (c.args.vault.now.0, c.is_directory.new.vault)).vault_holds c.is_directory.new.vault in
    failing_last old new (rw c.in-Err-Failed.field-0-is at (c.in-Err-Failed.ensures.told tells)) (c.in-Err-Failed.ensures.counts tells)
