use Rattle.std.proofs.Common.{◌≡◌, Ok, Err, rules}
use Rattle.pam_base.specs.declared.code.Code.{Code}
use Rattle.module_acts.specs.Act.{Act, asks_user}
use Rattle.module_acts.specs.Returns.{early, then}
use Rattle.pam_room.specs.Plain.{plain_process}
use Rattle.pam_room.specs.State.{PlainRoom}
use Rattle.pam_outside.specs.Time.{ClockState}
use Rattle.mod_unix.specs.Account.{account_by, checks_account}
use Rattle.mod_unix.specs.Look.{looks}
use Rattle.mod_unix.proofs.account.check_account.Goals as goal

pub returns-in_err-require_user-clause-told : goal.returns-in_err-require_user-clause-told
unfolding checks_account
returns-in_err-require_user-clause-told g c = λ talks tells clock ticks.
    let answered : c.from_residual.result ≡ Err c.in_err-require_user.field-0.0 = search rules in
    rw answered (early asks_user (λ user (act : Code → Act). looks user (λ look. account_by look act)) _ _ _ (c.in_err-require_user.ensures.told talks _ _ _))

pub returns-clause-told : goal.returns-clause-told
unfolding checks_account
returns-clause-told g c = λ talks tells clock ticks.
    let looked = λ (room : PlainRoom) (clock : ClockState). rw c.user_of.ensures at (c.in_ok-look.ensures.told tells room clock) in
    then asks_user (λ user (act : Code → Act). looks user (λ look. account_by look act)) (Ok c.account_by.result) _ _ _ _
    (c.in_ok-require_user.ensures.told talks _ _ (plain_process c.args.job.now.process.now))
    (then (looks _) (λ look (act : Code → Act). account_by look act) (Ok c.account_by.result) c.in_ok-look.look _ _ _ (looked _ _)
    (c.account_by.ensures.told clock ticks _ _ (plain_process c.args.job.now.process.now)))
