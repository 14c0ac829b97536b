use Rattle.pam_room.specs.Plain.{plain_call}
use Rattle.mod_history.specs.Pwhistory.{remember_of}
use Rattle.mod_history.proofs.SecondPassFacts.{no_history, none_if, not_used, used}
use Rattle.mod_history.proofs.locked.remember_in_history.Goals as goal

pub returns-in_default-clause-told : goal.returns-in_default-clause-told
returns-in_default-clause-told g c = λ tells room clock.
    let job = c.args.job.now in
    no_history c.acting.ensures.caller (plain_call job.asked.now.call.now) (remember_of job.asked.now.call.now.args.now) job.user.now
    job.hash.now job.token.now c.args.history _ (none_if c.args.history c.in_default.not-Some)

pub returns-then-is_refused_now-clause-told : goal.returns-then-is_refused_now-clause-told
returns-then-is_refused_now-clause-told g c = λ tells room clock.
    let job = c.args.job.now in
    used c.acting.ensures.caller (plain_call job.asked.now.call.now) (remember_of job.asked.now.call.now.args.now) job.user.now
    job.hash.now job.token.now c.args.history _ c.in-Some.history c.in-Some.is
    (rw c.hashes_of-hashes.ensures at c.if-is_refused_now.ensures)

pub returns-clause-told : goal.returns-clause-told
returns-clause-told g c = λ tells room clock.
    let job = c.args.job.now in
    not_used c.acting.ensures.caller (plain_call job.asked.now.call.now) (remember_of job.asked.now.call.now.args.now) job.user.now
    job.hash.now job.token.now c.args.history _ c.in-Some.history c.in-Some.is c.in_ok-code.code c.in_ok-text.text _
    (rw c.hashes_of-hashes.ensures at c.if-is_refused_now.ensures) (rw c.remember_of-remember.ensures at c.in_ok-text.ensures)
    (rw c.bytes.ensures at (c.in_ok-code.ensures.told tells room clock))
