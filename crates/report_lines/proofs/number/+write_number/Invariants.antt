use Rattle.std.proofs.Common.{ℕ}
use Rattle.report_lines.proofs.number.+write_number.Given as goal

abbrev pub decreases-write_number : goal.decreases-write_number
decreases-write_number l = l.number
