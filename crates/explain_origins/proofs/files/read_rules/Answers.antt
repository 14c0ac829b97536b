use Rattle.std.proofs.Common.{ℕ, List, ap, ◌∙◌}
use Rattle.pam_outside.specs.Paths.{path_of}
use Rattle.explain_origins.proofs.FailedAccessFacts.{failing_last}
use Rattle.explain_origins.proofs.Texts.{long_held, none_held}
use Rattle.explain_origins.proofs.files.read_rules.Goals as goal

pub returns-in-Err-Absent-clause-told : goal.returns-in-Err-Absent-clause-told
returns-in-Err-Absent-clause-told g c = λ tells.
    let path = c.bytes.ensures ∙ c.in_ok-path.ensures ∙ ap (λ (n : List ℕ). path_of c.args.root.now n) c.bytes-name.ensures in
    let told = rw c.in-Err-Absent.field-0-is at (c.in-Err-Absent.ensures.told tells) in
    none_held _ _ (rw path at told.1)

pub returns-in-Err-TooLong-clause-told : goal.returns-in-Err-TooLong-clause-told
returns-in-Err-TooLong-clause-told g c = λ tells.
    let path = c.bytes.ensures ∙ c.in_ok-path.ensures ∙ ap (λ (n : List ℕ). path_of c.args.root.now n) c.bytes-name.ensures in
    let told = rw c.in-Err-TooLong.field-0-is at (c.in-Err-TooLong.ensures.told tells) in
    long_held _ _ (rw path at told.1)

pub returns-clause-planned : goal.returns-clause-planned
returns-clause-planned g c = λ tells.
    let old = (goal.Vault-dyn g c.args.vault.now).vault_holds c.args.vault.now.1 in
    let new = (goal.Vault-dyn g (c.args.vault.now.0, c.read_file.new.vault)).vault_holds c.read_file.new.vault in
    failing_last old new (rw c.in-Err-Failed.field-0-is at (c.in-Err-Failed.ensures.told tells)) (c.in-Err-Failed.ensures.counts tells)
