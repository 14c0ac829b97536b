use Rattle.std.proofs.Common.{length}
use Rattle.explain_lines.proofs.run_text.+write_end_from.Given as goal

abbrev pub decreases-write_end_from : goal.decreases-write_end_from
decreases-write_end_from l = length l.rows.now
