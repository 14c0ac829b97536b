use Rattle.std.proofs.Common.{◌≡◌, ◌++◌, length}
use Rattle.pam_base.specs.Lines.{lines_of}
use Rattle.own_files.specs.Lines.{own_of}
use Rattle.own_files.proofs.lines.own_lines.Given as goal

abbrev pub invariant-loop-line : goal.invariant-loop-line
invariant-loop-line l = own_of l.user (lines_of l.text) ≡ l.own ++ own_of l.user l.lines

abbrev pub decreases-loop-line : goal.decreases-loop-line
decreases-loop-line l = length l.lines
