use Rattle.pam_base.specs.declared.code.Code.TheVariants.{Success}
use Rattle.pam_outside.specs.Files.{VaultState}
use Rattle.module_acts.specs.Act.{answers}
use Rattle.mod_env.specs.Env.{puts_if_all_fit}
use Rattle.mod_env.specs.EnvFile.{assignments_of}
use Rattle.mod_env.proofs.pam_env.set_by_conf.Goals as goal

pub returns-in-None-clause-told : goal.returns-in-None-clause-told
returns-in-None-clause-told g c = λ tells conv clock. rw (← c.in_ok-conf_of.ensures, c.in-None.is) (c.act_steps.ensures.answers _ _ _)

pub returns-then-not-branch-clause-told : goal.returns-then-not-branch-clause-told
returns-then-not-branch-clause-told g c = λ tells conv clock.
    rw (← c.in_ok-conf_of.ensures, c.in-Some.is)
    ((rw (c.if-not-branch.true, c.new-accounts.ensures) at (c.in_ok-set_all.ensures.told tells conv clock)) (puts_if_all_fit (assignments_of c.args.env.now)) _ _ (c.act_steps.ensures.answers _ _ _))

pub returns-clause-told : goal.returns-clause-told
returns-clause-told g c = λ tells conv clock.
    let put = λ (vault : VaultState). rw c.in_ok-assignments.ensures at (c.in_ok-put_all.ensures.told conv vault clock c.args.asked.now.process.now) in
    rw (← c.in_ok-conf_of.ensures, c.in-Some.is)
    ((rw (c.if-not-branch.false, c.new-accounts.ensures) at (c.in_ok-set_all.ensures.told tells conv clock)) (puts_if_all_fit (assignments_of c.args.env.now)) _ _
    (put _ (answers Success) _ _ _ (c.act_steps.ensures.answers _ _ _)))
