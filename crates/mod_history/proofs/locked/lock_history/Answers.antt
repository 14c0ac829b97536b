use Rattle.std.proofs.Common.{◌∙◌}
use Rattle.pam_room.specs.Plain.{plain_call}
use Rattle.mod_history.specs.Pwhistory.{remember_of}
use Rattle.mod_history.proofs.SecondPassFacts.{none_if}
use Rattle.mod_history.proofs.LockedHistoryFacts.{not_locked, refused, renewed}
use Rattle.mod_history.proofs.locked.lock_history.Goals as goal

pub returns-in_default-clause-told : goal.returns-in_default-clause-told
returns-in_default-clause-told g c = λ talks tells clock.
    let held = rw (none_if c.in_ok-held.held c.in_default.not-Some) at (c.in_ok-held.ensures.told tells) in
    not_locked (plain_call c.args.job.now.asked.now.call.now) (remember_of c.args.job.now.asked.now.call.now.args.now) c.args.job.now.user.now
    c.args.job.now.hash.now c.args.job.now.token.now
    _ _ _ (held _ clock) (c.unset_token.ensures.told _ _ clock _)

pub returns-in-Some-done-clause-told : goal.returns-in-Some-done-clause-told
returns-in-Some-done-clause-told g c = λ talks tells clock.
    let held = rw c.in-Some.is at (c.in_ok-held.ensures.told tells) in
    let taken = rw c.in-Some.is at c.in_ok-held.ensures.held in
    let freed = rw taken at (c.release.ensures.told (c.in_ok-done.ensures.tells ∙ c.in_ok-held.ensures.tells ∙ tells)) in
    renewed (plain_call c.args.job.now.asked.now.call.now) (remember_of c.args.job.now.asked.now.call.now.args.now) c.args.job.now.user.now
    c.args.job.now.hash.now c.args.job.now.token.now
    _ _ _ _ c.in_ok-done.done (held _ clock) (c.in_ok-done.ensures.told (c.in_ok-held.ensures.tells ∙ tells) _ clock) (freed _ clock _)
    c.in-Some-done.code c.in-Some-done.is

pub returns-in_ok-refuse_token-in-None-clause-told : goal.returns-in_ok-refuse_token-in-None-clause-told
returns-in_ok-refuse_token-in-None-clause-told g c = λ talks tells clock.
    let held = rw c.in-Some.is at (c.in_ok-held.ensures.told tells) in
    let taken = rw c.in-Some.is at c.in_ok-held.ensures.held in
    let freed = rw taken at (c.release.ensures.told (c.in_ok-done.ensures.tells ∙ c.in_ok-held.ensures.tells ∙ tells)) in
    refused (plain_call c.args.job.now.asked.now.call.now) (remember_of c.args.job.now.asked.now.call.now.args.now) c.args.job.now.user.now
    c.args.job.now.hash.now c.args.job.now.token.now
    _ _ _ _ c.in_ok-done.done (held _ clock) (c.in_ok-done.ensures.told (c.in_ok-held.ensures.tells ∙ tells) _ clock) (freed _ clock _)
    _ c.in-None.is (c.in_ok-refuse_token-in-None.ensures.told talks _ clock _)
