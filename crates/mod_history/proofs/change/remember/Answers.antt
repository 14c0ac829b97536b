use Rattle.std.proofs.Common.{◌≡◌, ◌==◌, ◌∙◌, Some, true, false, refl, arith}
use Rattle.std.proofs.lemmas.Bool.Decides.{nat_tests}
use Rattle.pam_room.specs.Plain.{plain_call}
use Rattle.mod_history.specs.Pwhistory.{remember_of}
use Rattle.mod_history.proofs.SecondPassFacts.{compared, not_remembered}
use Rattle.mod_history.proofs.change.remember.Goals as goal

pub returns-then-remember_of-eq0-clause-told : goal.returns-then-remember_of-eq0-clause-told
returns-then-remember_of-eq0-clause-told g c = λ talks tells clock.
    let job = c.args.job.now in
    let none : (remember_of job.asked.now.call.now.args.now == 0) ≡ true = grind (arith, nat_tests) in
    not_remembered (plain_call job.asked.now.call.now) job.user.now job.hash.now (Some job.token.now) _ job.token.now refl none

pub returns-clause-told : goal.returns-clause-told
returns-clause-told g c = λ talks tells clock.
    let job = c.args.job.now in
    let some : (remember_of job.asked.now.call.now.args.now == 0) ≡ false = grind (arith, nat_tests) in
    compared (plain_call job.asked.now.call.now) job.user.now job.hash.now (Some job.token.now) _ job.token.now refl c.in_ok-content.content
    c.in_ok-history.history c.compare.result _ _ some (λ act. c.in_ok-content.ensures.told tells _ clock act) c.in_ok-history.ensures
    (c.compare.ensures.told talks (c.in_ok-content.ensures.tells ∙ tells) clock)
