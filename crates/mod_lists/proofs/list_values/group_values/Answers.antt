use Rattle.std.proofs.Common.{◌∙◌}
use Rattle.mod_lists.specs.Listfile.{reads_group_values}
use Rattle.mod_lists.proofs.ReadFilesFacts.{values_by_account}
use Rattle.mod_lists.proofs.list_values.group_values.Goals as goal

pub returns-in-Missing-clause-told : goal.returns-in-Missing-clause-told
returns-in-Missing-clause-told g c = λ tells room clock act code end rest.
    (rw c.in-Missing.is at (c.in_ok-account.ensures.told tells)) room clock (reads_group_values _ act) code end rest

pub returns-in-Unreadable-clause-told : goal.returns-in-Unreadable-clause-told
returns-in-Unreadable-clause-told g c = λ tells room clock act code end rest.
    (rw c.in-Unreadable.is at (c.in_ok-account.ensures.told tells)) room clock (reads_group_values _ act) code end rest

pub returns-clause-told : goal.returns-clause-told
returns-clause-told g c = λ tells room clock act code end rest.
    let account = rw c.in-Found.is at c.in_ok-account.ensures.account in
    let found = rw c.user_of.ensures at c.in_ok-values.ensures in
    let values = values_by_account _ c.account_of.new.accounts c.read_groups.new.self _ _ _ c.in_ok-read_groups.ensures.passwds account found in
    (rw c.in-Found.is at (c.in_ok-account.ensures.told tells)) room clock (reads_group_values _ act) code end
    (c.in_ok-read_groups.ensures.told (c.in_ok-account.ensures.tells ∙ tells) _ clock _ _ _ (rw values at rest))
