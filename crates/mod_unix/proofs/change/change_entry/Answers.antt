use Rattle.std.proofs.Common.{◌≡◌, Err, refl, rules}
use Rattle.pam_room.specs.Plain.{plain_call, plain_process}
use Rattle.mod_unix.proofs.StoredTokenFacts.{first_pass, kept, not_taken, stored}
use Rattle.mod_unix.proofs.change.change_entry.Goals as goal

pub returns-then-is_kept-clause-told : goal.returns-then-is_kept-clause-told
returns-then-is_kept-clause-told g c = λ talks tells ticks day.
    let change = c.args.change.now in
    kept c.acting.ensures.clock (plain_call change.job.now.call.now) change.user.now _ _ change.entry.now change.today day
    c.if-is_kept.ensures refl

pub returns-then-has_flag-clause-told : goal.returns-then-has_flag-clause-told
returns-then-has_flag-clause-told g c = λ talks tells ticks day.
    let change = c.args.change.now in
    first_pass c.acting.ensures.clock (plain_call change.job.now.call.now) change.user.now _ _ change.entry.now change.today day
    c.try_change.result c.if-is_kept.ensures c.if-has_flag.ensures (c.try_change.ensures.told talks _ _)

pub returns-in_err-token-clause-told : goal.returns-in_err-token-clause-told
returns-in_err-token-clause-told g c = λ talks tells ticks day.
    let change = c.args.change.now in
    let answered : c.from_residual.result ≡ Err c.in_err-token.field-0.0 = search rules in
    rw answered (not_taken c.acting.ensures.clock (plain_call change.job.now.call.now) change.user.now _ _ change.entry.now
    change.today day _ c.if-is_kept.ensures c.if-has_flag.ensures (c.in_err-token.ensures.told talks _ _ _))

pub returns-clause-told : goal.returns-clause-told
returns-clause-told g c = λ talks tells ticks day.
    let change = c.args.change.now in
    stored c.acting.ensures.clock (plain_call change.job.now.call.now) change.user.now _ _ change.entry.now change.today day
    c.in_ok-token.token _ _ c.if-is_kept.ensures c.if-has_flag.ensures
    (c.in_ok-token.ensures.told talks _ _ (plain_process change.job.now.process.now)) (c.in_ok-store_token.ensures.told tells ticks _ day)
