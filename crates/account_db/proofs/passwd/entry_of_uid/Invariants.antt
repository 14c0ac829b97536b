use Rattle.std.proofs.Common.{◌≡◌, length}
use Rattle.std.specs.List.{filter_map}
use Rattle.account_db.specs.Entries.{entry_in}
use Rattle.account_db.specs.Passwd.{entry_of_uid, passwd_in}
use Rattle.account_db.proofs.passwd.entry_of_uid.Given as goal

abbrev pub invariant-loop-line : goal.invariant-loop-line
invariant-loop-line l =
    entry_of_uid l.uid l.entries ≡ entry_of_uid l.uid (filter_map (entry_in passwd_in) l.lines)

abbrev pub decreases-loop-line : goal.decreases-loop-line
decreases-loop-line l = length l.lines
