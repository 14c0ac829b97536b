use Rattle.std.proofs.Common.{◌≡◌, length}
use Rattle.std.specs.List.{list_any}
use Rattle.account_db.specs.Shells.{without_end}
use Rattle.mod_lists.specs.Listfile.{is_listed, is_value}
use Rattle.mod_lists.proofs.pam_listfile.has_line.Given as goal

abbrev pub invariant-loop-line : goal.invariant-loop-line
invariant-loop-line l = list_any (λ line. is_value l.values (without_end line)) l.lines ≡ is_listed l.values l.text

abbrev pub decreases-loop-line : goal.decreases-loop-line
decreases-loop-line l = length l.lines
