use Rattle.std.proofs.Common.{◌≡◌, Err, true, codes, rules}
use Rattle.pam_base.specs.declared.code.Code.{Code}
use Rattle.module_acts.specs.Returns.{early}
use Rattle.module_acts.specs.Steps.{asks_token}
use Rattle.module_acts.specs.Act.{Act}
use Rattle.mod_unix.specs.Change.{asks_old}
use Rattle.mod_unix.specs.Verify.{hash_verified}
use Rattle.mod_unix.proofs.FirstPassFacts.{verified_so}
use Rattle.mod_unix.proofs.change.ask_old.Goals as goal

pub returns-in_err-require_token-clause-told : goal.returns-in_err-require_token-clause-told
unfolding asks_old
returns-in_err-require_token-clause-told g c = λ talks vault clock process.
    let answered : c.from_residual.result ≡ Err c.in_err-require_token.field-0.0 = search rules in
    rw answered (early (asks_token true (codes "Password: ")) (λ token (act : Code → Act). act (hash_verified c.args.entry.now.hash token)) _ _ _ (c.in_err-require_token.ensures.told talks vault clock process))

pub returns-clause-told : goal.returns-clause-told
unfolding asks_old
returns-clause-told g c = λ talks vault clock process act known code end rest.
    c.in_ok-require_token.ensures.told talks vault clock process (λ token. act (hash_verified c.args.entry.now.hash token)) known code end
    (verified_so _ _ c.in-Some.token.now _ act known _ _ _ c.in-Some.ensures (rw c.bytes.ensures at c.verify_hash.ensures) rest)
