use Rattle.std.proofs.Common.{◌∙◌}
use Rattle.mod_lists.specs.Nologin.{or_etc}
use Rattle.mod_lists.proofs.pam_nologin.read_usual_notice.Goals as goal

pub returns-in_ok-other-in-Absent-clause-told : goal.returns-in_ok-other-in-Absent-clause-told
returns-in_ok-other-in-Absent-clause-told g c = λ tells room clock act known code end rest.
    c.in_ok-usual.ensures.told tells _ clock (or_etc act) _ _ _
    (rw c.in-Absent.is (c.in_ok-other-in-Absent.ensures.told (c.in_ok-usual.ensures.tells ∙ tells) _ clock act _ _ _ rest))

pub returns-in-Unreadable-clause-told : goal.returns-in-Unreadable-clause-told
returns-in-Unreadable-clause-told g c = λ tells room clock act known code end rest.
    c.in_ok-usual.ensures.told tells _ clock (or_etc act) _ _ _ (rw c.in-Unreadable.is rest)

pub returns-in-Holds-clause-told : goal.returns-in-Holds-clause-told
returns-in-Holds-clause-told g c = λ tells room clock act known code end rest.
    c.in_ok-usual.ensures.told tells _ clock (or_etc act) _ _ _ (rw c.in-Holds.is rest)
