use Rattle.std.proofs.Common.{length}
use Rattle.pam_base.specs.Lines.{lines_of}
use Rattle.account_db.proofs.TextLineFacts.{SoFar}
use Rattle.account_db.proofs.entry.check_lines.Given as goal

abbrev pub invariant-loop-line : goal.invariant-loop-line
invariant-loop-line g l = SoFar g.E.AccountEntry.form (lines_of l.text) l.lines l.number

abbrev pub decreases-loop-line : goal.decreases-loop-line
decreases-loop-line g l = length l.lines
