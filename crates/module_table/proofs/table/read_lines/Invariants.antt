use Rattle.std.proofs.Common.{◌≡◌, length}
use Rattle.module_table.specs.Entries.{after_these, entries_in}
use Rattle.module_table.proofs.table.read_lines.Given as goal

abbrev pub invariant-loop-line : goal.invariant-loop-line
invariant-loop-line l = after_these l.table (entries_in l.lines) ≡ entries_in l.fn.lines

abbrev pub decreases-loop-line : goal.decreases-loop-line
decreases-loop-line l = length l.lines
