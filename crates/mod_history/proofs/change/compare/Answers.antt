use Rattle.pam_room.specs.Plain.{plain_call}
use Rattle.mod_history.specs.Pwhistory.{remember_of}
use Rattle.mod_history.proofs.SecondPassFacts.{had, had_not, none_if, not_read}
use Rattle.mod_history.proofs.change.compare.Goals as goal

pub returns-in_default-clause-told : goal.returns-in_default-clause-told
returns-in_default-clause-told g c = λ talks tells clock.
    let job = c.args.job.now in
    not_read c.acting.ensures.caller (plain_call job.asked.now.call.now) (remember_of job.asked.now.call.now.args.now) job.user.now
    job.hash.now job.token.now c.args.history _ (none_if c.args.history c.in_default.not-Some)

pub returns-then-is_refused-clause-told : goal.returns-then-is_refused-clause-told
returns-then-is_refused-clause-told g c = λ talks tells clock.
    let job = c.args.job.now in
    had c.acting.ensures.caller (plain_call job.asked.now.call.now) (remember_of job.asked.now.call.now.args.now) job.user.now
    job.hash.now job.token.now c.args.history _ c.in-Some.history c.in-Some.is _
    (rw c.hashes_of-hashes.ensures at c.if-is_refused.ensures) (c.in_ok-refuse_token.ensures.told talks _ clock _)

pub returns-clause-told : goal.returns-clause-told
returns-clause-told g c = λ talks tells clock.
    let job = c.args.job.now in
    had_not c.acting.ensures.caller (plain_call job.asked.now.call.now) (remember_of job.asked.now.call.now.args.now) job.user.now
    job.hash.now job.token.now c.args.history _ c.in-Some.history c.in-Some.is c.lock_history.result _
    (rw c.hashes_of-hashes.ensures at c.if-is_refused.ensures) (c.lock_history.ensures.told talks tells clock)
