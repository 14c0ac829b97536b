use Rattle.std.proofs.Common.{◌∙◌}
use Rattle.mod_lists.proofs.ReadFilesFacts.{groups_by_entries}
use Rattle.mod_lists.proofs.list_scope.list_applies.Goals as goal

pub returns-in-Everyone-clause-told : goal.returns-in-Everyone-clause-told
returns-in-Everyone-clause-told g c = λ tells room clock act code end rest. rw c.in-Everyone.is rest

pub returns-in-One-clause-told : goal.returns-in-One-clause-told
returns-in-One-clause-told g c = λ tells room clock act code end rest. rw c.in-One.is (rw (c.yes_or_no.ensures, c.is_same.ensures, c.user_of-user.ensures) at rest)

pub returns-in-None-clause-told : goal.returns-in-None-clause-told
returns-in-None-clause-told g c = λ tells room clock act code end rest.
    rw c.in-Members.is (c.in_ok-read_passwds-in-Members.ensures.told tells _ clock _ _ _ (rw (← c.in-None.ensures) rest))

pub returns-in_ok-applies-in-Members-clause-told : goal.returns-in_ok-applies-in-Members-clause-told
returns-in_ok-applies-in-Members-clause-told g c = λ tells room clock act code end rest.
    let passwds = c.in_ok-read_passwds-in-Members.ensures in
    let groups = c.in_ok-read_groups-in-Members.ensures in
    let found = c.in_ok-applies-in-Members.ensures in
    let value = groups_by_entries c.in-Members.name.now _ c.read_passwds.new.self c.read_groups.new.self c.in-Some.field-0.now _ _ groups.passwds c.in-Some.ensures found in
    rw c.in-Members.is (passwds.told tells _ clock _ _ _
    (rw (← c.in-Some.ensures) (groups.told (passwds.tells ∙ tells) _ clock _ _ _ (rw value at rest))))
