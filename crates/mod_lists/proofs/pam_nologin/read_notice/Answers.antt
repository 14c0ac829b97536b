use Rattle.mod_lists.proofs.pam_nologin.read_notice.Goals as goal

pub returns-in_ok-named-in-Some-clause-told : goal.returns-in_ok-named-in-Some-clause-told
returns-in_ok-named-in-Some-clause-told g c = λ tells room clock act known code end rest.
    rw (← c.value.ensures, c.in-Some.is) (c.in_ok-named-in-Some.ensures.told tells _ clock act _ _ _ rest)

pub returns-in-None-clause-told : goal.returns-in-None-clause-told
returns-in-None-clause-told g c = λ tells. rw (← c.value.ensures, c.in-None.is) (c.read_usual_notice.ensures.told tells)
