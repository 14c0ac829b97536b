use Rattle.std.proofs.Common.{◌≡◌, ◌∙◌, Ok, Err, ap, rules}
use Rattle.pam_base.specs.declared.code.Code.{Code}
use Rattle.pam_base.specs.declared.code.Code.TheVariants.{AuthinfoUnavail, AuthtokErr, UserUnknown}
use Rattle.module_acts.specs.Act.{Act, asks_user}
use Rattle.module_acts.specs.Returns.{early}
use Rattle.pam_room.specs.Plain.{plain_call, plain_process}
use Rattle.pam_room.specs.State.{PlainRoom}
use Rattle.mod_unix.specs.Aging.{day_of}
use Rattle.mod_unix.specs.Change.{change_by, changes_token}
use Rattle.mod_unix.specs.Look.{looks}
use Rattle.mod_unix.proofs.StoredTokenFacts.{by_look, by_plain, by_shadow, by_unavailable, by_unknown}
use Rattle.mod_unix.proofs.change.change_token.Goals as goal

pub returns-in_err-require_user-clause-told : goal.returns-in_err-require_user-clause-told
unfolding changes_token
returns-in_err-require_user-clause-told g c = λ talks tells ticks time.
    let clock = (goal.Clock-dyn g c.args.clock.now).clock_holds c.args.clock.now.1 in
    let call = plain_call c.args.job.now.call.now in
    let answered : c.from_residual.result ≡ Err c.in_err-require_user.field-0.0 = search rules in
    rw answered (early asks_user (λ user (act : Code → Act). looks user (λ look. change_by call user look act)) _ _ _
    (c.in_err-require_user.ensures.told talks _ clock _))

pub returns-in-Unknown-clause-told : goal.returns-in-Unknown-clause-told
returns-in-Unknown-clause-told g c = λ talks tells ticks time.
    let clock = (goal.Clock-dyn g c.args.clock.now).clock_holds c.args.clock.now.1 in
    let call = plain_call c.args.job.now.call.now in
    let looked = λ (room : PlainRoom). rw (c.bytes.ensures, c.in_ok-user.ensures, c.user_of.ensures) at (c.in_ok-look.ensures.told tells room clock) in
    by_look call _ c.in_ok-look.look _ _ _ (c.in_ok-require_user.ensures.told talks _ clock (plain_process c.args.job.now.process.now)) (looked _)
    (Ok UserUnknown) _ (by_unknown call _ c.in_ok-look.look _ c.in-Unknown.is)

pub returns-in-Unavailable-clause-told : goal.returns-in-Unavailable-clause-told
returns-in-Unavailable-clause-told g c = λ talks tells ticks time.
    let clock = (goal.Clock-dyn g c.args.clock.now).clock_holds c.args.clock.now.1 in
    let call = plain_call c.args.job.now.call.now in
    let looked = λ (room : PlainRoom). rw (c.bytes.ensures, c.in_ok-user.ensures, c.user_of.ensures) at (c.in_ok-look.ensures.told tells room clock) in
    by_look call _ c.in_ok-look.look _ _ _ (c.in_ok-require_user.ensures.told talks _ clock (plain_process c.args.job.now.process.now)) (looked _)
    (Ok AuthinfoUnavail) _ (by_unavailable call _ c.in_ok-look.look _ c.in-Unavailable.is)

pub returns-in-Plain-clause-told : goal.returns-in-Plain-clause-told
returns-in-Plain-clause-told g c = λ talks tells ticks time.
    let clock = (goal.Clock-dyn g c.args.clock.now).clock_holds c.args.clock.now.1 in
    let call = plain_call c.args.job.now.call.now in
    let looked = λ (room : PlainRoom). rw (c.bytes.ensures, c.in_ok-user.ensures, c.user_of.ensures) at (c.in_ok-look.ensures.told tells room clock) in
    by_look call _ c.in_ok-look.look _ _ _ (c.in_ok-require_user.ensures.told talks _ clock (plain_process c.args.job.now.process.now)) (looked _)
    (Ok AuthtokErr) _ (by_plain call _ c.in_ok-look.look _ _ c.in-Plain.is)

pub returns-clause-told : goal.returns-clause-told
returns-clause-told g c = λ talks tells ticks time.
    let clock = (goal.Clock-dyn g c.args.clock.now).clock_holds c.args.clock.now.1 in
    let call = plain_call c.args.job.now.call.now in
    let looked = λ (room : PlainRoom). rw (c.bytes.ensures, c.in_ok-user.ensures, c.user_of.ensures) at (c.in_ok-look.ensures.told tells room clock) in
    let changed = c.change_entry.ensures.told (c.in_ok-require_user.ensures.tells ∙ talks) (c.in_ok-look.ensures.tells ∙ tells) ticks
    (c.day_of.ensures ∙ ap day_of time) in
    by_look call _ c.in_ok-look.look _ _ _ (c.in_ok-require_user.ensures.told talks _ clock (plain_process c.args.job.now.process.now)) (looked _)
    c.change_entry.result _ (by_shadow call _ c.in_ok-look.look _ c.in-Shadowed.entry _ c.change_entry.result c.in-Shadowed.is
    (rw (c.bytes-in-Shadowed.ensures, c.in_ok-user.ensures, c.user_of.ensures) at changed))
