use Rattle.std.proofs.Common.{◌≡◌, ◌∙◌, Ok, Err, refl, rules}
use Rattle.pam_base.specs.declared.code.Code.TheVariants.{Success}
use Rattle.module_acts.specs.Act.{Act, asks_user}
use Rattle.module_acts.specs.Returns.{early, then}
use Rattle.pam_room.specs.Plain.{plain_call, plain_process}
use Rattle.pam_room.specs.State.{PlainRoom}
use Rattle.mod_unix.specs.declared.authenticate.Authenticated.{Authenticated}
use Rattle.mod_unix.specs.declared.authenticate.Authenticated.TheVariants.{Kept}
use Rattle.mod_unix.specs.Authenticate.{authenticates, judge_account}
use Rattle.mod_unix.specs.Look.{looks}
use Rattle.mod_unix.proofs.EarlierTokenFacts.{delays_then, goes_on, opens}
use Rattle.mod_unix.proofs.authenticate.authenticate.Goals as goal

pub returns-in_err-require_user-clause-told : goal.returns-in_err-require_user-clause-told
unfolding authenticates
returns-in_err-require_user-clause-told g c = λ talks tells clock.
    let answered : c.from_residual.result ≡ Err c.in_err-require_user.field-0.0 = search rules in
    rw answered (early asks_user (λ user (act : Authenticated → Act). looks user (λ look. judge_account (plain_call c.args.job.now.call.now) look act)) _ _ _
    (c.in_err-require_user.ensures.told talks _ clock _))

pub returns-then-is_open-clause-told : goal.returns-then-is_open-clause-told
unfolding authenticates
returns-then-is_open-clause-told g c = λ talks tells clock.
    let call = plain_call c.args.job.now.call.now in
    let looked = λ (room : PlainRoom). rw c.user_of.ensures at (c.in_ok-look.ensures.told tells room clock) in
    then asks_user (λ user (act : Authenticated → Act). looks user (λ look. judge_account call look act)) (Ok (Kept Success)) _ _ _ _
    (c.in_ok-require_user.ensures.told talks _ clock (plain_process c.args.job.now.process.now))
    (then (looks _) (λ look (act : Authenticated → Act). judge_account call look act) (Ok (Kept Success)) c.in_ok-look.look _ _ _ (looked _)
    (opens call c.in_ok-look.look _ _ c.if-is_open.ensures refl))

pub returns-then-has_argument-clause-told : goal.returns-then-has_argument-clause-told
unfolding authenticates
returns-then-has_argument-clause-told g c = λ talks tells clock.
    let call = plain_call c.args.job.now.call.now in
    let looked = λ (room : PlainRoom). rw c.user_of.ensures at (c.in_ok-look.ensures.told tells room clock) in
    then asks_user (λ user (act : Authenticated → Act). looks user (λ look. judge_account call look act)) c.verify_token.result _ _ _ _
    (c.in_ok-require_user.ensures.told talks _ clock (plain_process c.args.job.now.process.now))
    (then (looks _) (λ look (act : Authenticated → Act). judge_account call look act) c.verify_token.result c.in_ok-look.look _ _ _ (looked _)
    (goes_on call c.in_ok-look.look _ _ c.verify_token.result c.if-is_open.ensures c.if-has_argument.ensures
    (c.verify_token.ensures.told (c.in_ok-require_user.ensures.tells ∙ talks) _ clock (plain_process c.args.job.now.process.now))))

pub returns-clause-told : goal.returns-clause-told
unfolding authenticates
returns-clause-told g c = λ talks tells clock.
    let call = plain_call c.args.job.now.call.now in
    let looked = λ (room : PlainRoom). rw c.user_of.ensures at (c.in_ok-look.ensures.told tells room clock) in
    then asks_user (λ user (act : Authenticated → Act). looks user (λ look. judge_account call look act)) c.verify_token-2.result _ _ _ _
    (c.in_ok-require_user.ensures.told talks _ clock (plain_process c.args.job.now.process.now))
    (then (looks _) (λ look (act : Authenticated → Act). judge_account call look act) c.verify_token-2.result c.in_ok-look.look _ _ _ (looked _)
    (delays_then call c.in_ok-look.look _ _ c.verify_token-2.result _ c.if-is_open.ensures c.if-has_argument.ensures (c.request_delay.ensures.told _ _ clock
    (plain_process c.args.job.now.process.now))
    (c.verify_token-2.ensures.told (c.in_ok-require_user.ensures.tells ∙ talks) _ clock (plain_process c.args.job.now.process.now))))
