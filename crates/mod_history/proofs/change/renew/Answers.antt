use Rattle.std.proofs.Common.{◌≡◌, ◌∙◌, Ok, Err, rules}
use Rattle.pam_base.specs.declared.code.Code.{Code}
use Rattle.pam_base.specs.declared.code.Code.TheVariants.{AuthtokErr}
use Rattle.module_acts.specs.Act.{Act}
use Rattle.module_acts.specs.Returns.{early, then}
use Rattle.pam_room.specs.Plain.{plain_call, plain_process}
use Rattle.mod_unix.specs.Change.{takes_token}
use Rattle.mod_history.specs.Pwhistory.{remembers, renews}
use Rattle.mod_history.proofs.SecondPassFacts.{no_token, none_if, with_token}
use Rattle.mod_history.proofs.change.renew.Goals as goal

pub returns-in_err-token-clause-told : goal.returns-in_err-token-clause-told
unfolding renews
returns-in_err-token-clause-told g c = λ talks tells clock.
    let call = plain_call c.args.asked.now.call.now in
    let answered : c.from_residual.result ≡ Err c.in_err-token.field-0.0 = search rules in
    rw answered (early (takes_token call) (λ token (act : Code → Act). remembers call c.args.user.now c.args.hash.now token act) _ _ _
    (c.in_err-token.ensures.told talks _ clock _))

pub returns-in_default-clause-told : goal.returns-in_default-clause-told
unfolding renews
returns-in_default-clause-told g c = λ talks tells clock.
    let call = plain_call c.args.asked.now.call.now in
    then (takes_token call) (λ token (act : Code → Act). remembers call c.args.user.now c.args.hash.now token act) (Ok AuthtokErr) c.in_ok-token.token
    _ _ _ (c.in_ok-token.ensures.told talks _ clock (plain_process c.args.asked.now.process.now))
    (no_token call c.args.user.now c.args.hash.now c.in_ok-token.token _ (none_if c.in_ok-token.token c.in_default.not-Some))

pub returns-clause-told : goal.returns-clause-told
unfolding renews
returns-clause-told g c = λ talks tells clock.
    let call = plain_call c.args.asked.now.call.now in
    then (takes_token call) (λ token (act : Code → Act). remembers call c.args.user.now c.args.hash.now token act) (Ok c.in_ok-remember.field-0)
    c.in_ok-token.token _ _ _ (c.in_ok-token.ensures.told talks _ clock (plain_process c.args.asked.now.process.now))
    (with_token call c.args.user.now c.args.hash.now c.in_ok-token.token _ c.in-Some.token c.in-Some.is _ _
    (rw c.bytes.ensures at (c.in_ok-remember.ensures.told (c.in_ok-token.ensures.tells ∙ talks) tells clock)))
