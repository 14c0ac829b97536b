use Rattle.std.proofs.Common.{◌∙◌}
use Rattle.pam_room.specs.Plain.{plain_call}
use Rattle.mod_history.specs.Pwhistory.{remember_of}
use Rattle.mod_history.proofs.SecondPassFacts.{read_again}
use Rattle.mod_history.proofs.locked.remember_locked.Goals as goal

pub returns-clause-told : goal.returns-clause-told
returns-clause-told g c = λ tells.
    let job = c.args.job.now in
    read_again (plain_call job.asked.now.call.now) (remember_of job.asked.now.call.now.args.now) job.user.now job.hash.now job.token.now
    c.in_ok-content.content c.in_ok-history.history job.asked.now.process.now _ _ _ c.remember_in_history.result
    (c.in_ok-content.ensures.told tells) c.in_ok-history.ensures
    (c.remember_in_history.ensures.told (c.in_ok-content.ensures.tells ∙ tells))
