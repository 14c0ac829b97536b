use Rattle.std.proofs.Common.{◌∙◌}
use Rattle.pam_base.specs.declared.code.Code.TheVariants.{Success}
use Rattle.mod_tally.specs.Faillock.{if_taken}
use Rattle.mod_tally.proofs.task.try_lock.Goals as goal

pub returns-in-Some-clause-told : goal.returns-in-Some-clause-told
returns-in-Some-clause-told g c = λ tells room clock act known code end rest.
    let held = rw c.in-Some.is at (c.in_ok-held.ensures.told tells) in
    let taken = rw c.in-Some.is at c.in_ok-held.ensures.held in
    let freed = rw taken at (c.release.ensures.told (c.in_ok-held.ensures.tells ∙ tells)) in
    held room clock (if_taken c.args.job.now.lock.now act) known _ _ (freed _ _ _ (act Success) known code end rest)

pub returns-in-None-clause-told : goal.returns-in-None-clause-told
returns-in-None-clause-told g c = λ tells room clock act known code end rest.
    let held = rw c.in-None.is at (c.in_ok-held.ensures.told tells) in
    held room clock (if_taken c.args.job.now.lock.now act) known _ _ rest
