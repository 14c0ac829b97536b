use Rattle.mod_lists.proofs.pam_listfile.ListfileCheckCheck.decide.Goals as goal

pub returns-in-None-clause-told : goal.returns-in-None-clause-told
returns-in-None-clause-told g c = λ tells clock ticks conv. rw (← c.in-None.ensures, c.error_answer.ensures) (c.act_steps.ensures.answers _ _ _)

pub returns-in-Some-clause-told : goal.returns-in-Some-clause-told
returns-in-Some-clause-told g c = λ tells clock ticks conv. rw (← c.in-Some.ensures) (c.search_list.ensures.told tells conv _)
