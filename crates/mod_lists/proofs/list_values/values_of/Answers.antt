use Rattle.pam_room.specs.Plain.{plain_transaction}
use Rattle.pam_room.specs.State.{room_of}
use Rattle.mod_lists.specs.Listfile.{shell_values}
use Rattle.mod_lists.proofs.list_values.values_of.Goals as goal

pub returns-in-Tty-clause-told : goal.returns-in-Tty-clause-told
returns-in-Tty-clause-told g c = λ tells conv clock. rw c.in-Tty.is ((rw c.in-Tty.is at c.item_values.ensures.told) conv _ clock _)

pub returns-in-User-clause-told : goal.returns-in-User-clause-told
returns-in-User-clause-told g c = λ tells conv clock. rw c.in-User.is ((rw c.in-User.is at c.item_values-in-User.ensures.told) conv _ clock _)

pub returns-in-Rhost-clause-told : goal.returns-in-Rhost-clause-told
returns-in-Rhost-clause-told g c = λ tells conv clock. rw c.in-Rhost.is ((rw c.in-Rhost.is at c.item_values-in-Rhost.ensures.told) conv _ clock _)

pub returns-in-Ruser-clause-told : goal.returns-in-Ruser-clause-told
returns-in-Ruser-clause-told g c = λ tells conv clock. rw c.in-Ruser.is ((rw c.in-Ruser.is at c.item_values-in-Ruser.ensures.told) conv _ clock _)

pub returns-in_ok-shell-in-Shell-clause-told : goal.returns-in_ok-shell-in-Shell-clause-told
returns-in_ok-shell-in-Shell-clause-told g c = λ tells conv clock act code end rest.
    rw c.in-Shell.is (c.in_ok-account-in-Shell.ensures.told tells (room_of (plain_transaction c.args.seen.now.transaction.now) conv) clock (λ account. act (shell_values account)) code end (rw c.in_ok-shell-in-Shell.ensures at rest))

pub returns-in_ok-groups-in-Group-clause-told : goal.returns-in_ok-groups-in-Group-clause-told
returns-in_ok-groups-in-Group-clause-told g c = λ tells conv clock act code end rest.
    rw c.in-Group.is (c.in_ok-groups-in-Group.ensures.told tells (room_of (plain_transaction c.args.seen.now.transaction.now) conv) clock act code end rest)
