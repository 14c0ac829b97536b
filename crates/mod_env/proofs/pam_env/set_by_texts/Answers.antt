use Rattle.mod_env.proofs.pam_env.set_by_texts.Goals as goal

pub returns-in-None-clause-told : goal.returns-in-None-clause-told
returns-in-None-clause-told g c = λ tells conv clock. rw c.in-None.is (c.act_steps.ensures.answers _ _ _)

pub returns-in-Some-clause-told : goal.returns-in-Some-clause-told
returns-in-Some-clause-told g c = λ tells conv clock. rw c.in-Some.is (rw c.bytes.ensures at (c.set_by_conf.ensures.told tells conv clock))
