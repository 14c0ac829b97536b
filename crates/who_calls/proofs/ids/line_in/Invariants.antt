use Rattle.std.proofs.Common.{◌≡◌, length}
use Rattle.std.specs.List.{find}
use Rattle.pam_base.specs.Lines.{lines_of}
use Rattle.who_calls.specs.Status.{is_line_of}
use Rattle.who_calls.proofs.ids.line_in.Given as goal

abbrev pub invariant-loop-line : goal.invariant-loop-line
invariant-loop-line l = find (is_line_of l.name) (lines_of l.status) ≡ find (is_line_of l.name) l.lines

abbrev pub decreases-loop-line : goal.decreases-loop-line
decreases-loop-line l = length l.lines
