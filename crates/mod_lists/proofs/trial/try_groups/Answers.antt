use Rattle.std.proofs.Common.{◌∙◌}
use Rattle.mod_lists.proofs.ReadFilesFacts.{truth_by_entries}
use Rattle.mod_lists.proofs.trial.try_groups.Goals as goal

pub returns-in-None-clause-told : goal.returns-in-None-clause-told
returns-in-None-clause-told g c = λ tells room clock act code end rest.
    c.in_ok-read_passwds.ensures.told tells _ clock _ _ _ (rw (← c.in-None.ensures) rest)

pub returns-clause-told : goal.returns-clause-told
returns-clause-told g c = λ tells room clock act code end rest.
    let passwds = c.in_ok-read_passwds.ensures in
    let groups = c.in_ok-read_groups.ensures in
    let found = rw c.user_of.ensures at c.in_ok-truth.ensures in
    let value = truth_by_entries c.args.sense _ _ c.read_passwds.new.self c.read_groups.new.self c.in-Some.field-0.now _ _ groups.passwds c.in-Some.ensures found in
    passwds.told tells _ clock _ _ _
    (rw (← c.in-Some.ensures) (groups.told (passwds.tells ∙ tells) _ clock _ _ _ (rw value at rest)))
