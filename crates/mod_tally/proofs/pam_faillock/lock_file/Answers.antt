use Rattle.std.proofs.Common.{◌∙◌}
use Rattle.pam_base.specs.declared.code.Code.{Code}
use Rattle.module_acts.specs.Act.{lets_go}
use Rattle.module_acts.specs.Content.{is_rooted}
use Rattle.mod_tally.specs.Faillock.{if_held}
use Rattle.mod_tally.specs.Settings.{plain_settings}
use Rattle.mod_tally.proofs.pam_faillock.lock_file.Goals as goal

pub returns-in_ok-code-in-Some-clause-told : goal.returns-in_ok-code-in-Some-clause-told
returns-in_ok-code-in-Some-clause-told g c = λ tells clock ticks conv act known code end rest.
    let held = rw c.in-Some.is at (c.in_ok-held.ensures.told tells) in
    let taken = rw c.in-Some.is at c.in_ok-held.ensures.held in
    let lock = c.args.job.now.lock.now in
    let freed = rw taken at (c.release.ensures.told (c.in_ok-code-in-Some.ensures.tells ∙ c.in_ok-held.ensures.tells ∙ tells)) in
    held _ _ (if_held c.args.job.now.task (plain_settings c.args.job.now.settings) c.args.job.now.file.now lock act) known _ _
    (c.in_ok-code-in-Some.ensures.told (c.in_ok-held.ensures.tells ∙ tells) clock ticks conv (λ (code : Code). lets_go (is_rooted lock) (act code)) known _ _
    (freed _ _ _ (act c.in_ok-code-in-Some.code) known code end rest))

pub returns-in-None-clause-told : goal.returns-in-None-clause-told
returns-in-None-clause-told g c = λ tells clock ticks conv act known code end rest.
    let held = rw c.in-None.is at (c.in_ok-held.ensures.told tells) in
    held _ _ (if_held c.args.job.now.task (plain_settings c.args.job.now.settings) c.args.job.now.file.now c.args.job.now.lock.now act) known _ _ rest
