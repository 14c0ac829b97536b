use Rattle.std.proofs.Common.{◌≡◌, ◌∙◌, Err, rules}
use Rattle.pam_base.specs.declared.code.Code.{Code}
use Rattle.module_acts.specs.Act.{Act, asks_user}
use Rattle.module_acts.specs.Returns.{early, then}
use Rattle.pam_room.specs.Plain.{plain_call, plain_process}
use Rattle.pam_room.specs.State.{PlainRoom}
use Rattle.mod_unix.specs.Look.{looks}
use Rattle.mod_history.specs.Pwhistory.{renew_if_known, checks_token}
use Rattle.mod_history.proofs.change.check_token.Goals as goal

pub returns-in_err-require_user-clause-told : goal.returns-in_err-require_user-clause-told
unfolding checks_token
returns-in_err-require_user-clause-told g c = λ talks tells clock.
    let answered : c.from_residual.result ≡ Err c.in_err-require_user.field-0.0 = search rules in
    rw answered (early asks_user (λ user (act : Code → Act). looks user (λ look. renew_if_known (plain_call c.args.asked.now.call.now) user look act)) _ _ _ (c.in_err-require_user.ensures.told talks _ clock _))

pub returns-clause-told : goal.returns-clause-told
unfolding checks_token
returns-clause-told g c = λ talks tells clock.
    let call = plain_call c.args.asked.now.call.now in
    let looked = λ (room : PlainRoom). rw (c.bytes.ensures, c.in_ok-user.ensures, c.user_of.ensures) at (c.in_ok-look.ensures.told tells room clock) in
    then asks_user (λ user (act : Code → Act). looks user (λ look. renew_if_known call user look act)) c.renew_if_known.result _ _ _ _ (c.in_ok-require_user.ensures.told talks _ clock (plain_process c.args.asked.now.process.now))
    (then (looks _) (λ look (act : Code → Act). renew_if_known call _ look act) c.renew_if_known.result c.in_ok-look.look _ _ _ (looked _)
    (rw (c.bytes-2.ensures, c.in_ok-user.ensures, c.user_of.ensures) at (c.renew_if_known.ensures.told (c.in_ok-require_user.ensures.tells ∙ talks) (c.in_ok-look.ensures.tells ∙ tells) clock)))
