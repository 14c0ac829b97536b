use Rattle.std.proofs.Common.{◌≡◌, length}
use Rattle.std.specs.List.{list_any}
use Rattle.account_db.specs.Shells.{without_end}
use Rattle.mod_history.specs.Securetty.{is_secure, is_terminal}
use Rattle.mod_history.proofs.pam_securetty.is_secure.Given as goal

abbrev pub invariant-loop-line : goal.invariant-loop-line
invariant-loop-line l = list_any (λ line. is_terminal l.name (without_end line)) l.lines ≡ is_secure l.name l.text

abbrev pub decreases-loop-line : goal.decreases-loop-line
decreases-loop-line l = length l.lines
