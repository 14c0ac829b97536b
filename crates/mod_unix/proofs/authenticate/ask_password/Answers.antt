use Rattle.std.proofs.Common.{◌≡◌, Err, false, codes, rules}
use Rattle.module_acts.specs.Returns.{early}
use Rattle.module_acts.specs.Steps.{asks_token}
use Rattle.module_acts.specs.Act.{Act}
use Rattle.mod_unix.specs.declared.authenticate.Authenticated.{Authenticated}
use Rattle.mod_unix.specs.declared.authenticate.Authenticated.TheVariants.{Kept}
use Rattle.mod_unix.specs.Authenticate.{asks_password}
use Rattle.mod_unix.specs.Verify.{verified}
use Rattle.mod_unix.proofs.VerifiedTokenFacts.{kept}
use Rattle.mod_unix.proofs.authenticate.ask_password.Goals as goal

pub returns-in_err-require_token-clause-told : goal.returns-in_err-require_token-clause-told
unfolding asks_password
returns-in_err-require_token-clause-told g c = λ talks vault clock process.
    let answered : c.from_residual.result ≡ Err c.in_err-require_token.field-0.0 = search rules in
    rw answered (early (asks_token false (codes "Password: ")) (λ token (act : Authenticated → Act). act (Kept (verified c.args.look.now token))) _ _ _ (c.in_err-require_token.ensures.told talks vault clock process))

pub returns-clause-told : goal.returns-clause-told
unfolding asks_password
returns-clause-told g c = λ talks vault clock process act known code end rest.
    c.in_ok-require_token.ensures.told talks vault clock process (λ token. act (Kept (verified c.args.look.now token))) known code end
    (kept c.args.look.now _ c.in-Some.token.now _ act known _ _ _ c.in-Some.ensures c.verify.ensures rest)
