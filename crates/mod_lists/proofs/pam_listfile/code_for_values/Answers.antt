use Rattle.mod_lists.proofs.pam_listfile.code_for_values.Goals as goal

pub returns-in-Unset-clause-told : goal.returns-in-Unset-clause-told
returns-in-Unset-clause-told g c = λ tells room clock known. rw (c.in-Unset.is, c.verdict.ensures) (c.act_steps.ensures.answers _ _ _)

pub returns-in-Unknown-clause-told : goal.returns-in-Unknown-clause-told
returns-in-Unknown-clause-told g c = λ tells room clock known. rw (c.in-Unknown.is, c.error_answer-error.ensures) (c.act_steps.ensures.answers _ _ _)

pub returns-clause-told : goal.returns-clause-told
returns-clause-told g c = λ tells room clock known.
    rw c.in-These.is (c.in_ok-content.ensures.told tells _ clock _ _ _ _
    (rw (c.file_verdict.ensures, c.error_answer-error.ensures) (c.act_steps.ensures.answers _ _ _)))
