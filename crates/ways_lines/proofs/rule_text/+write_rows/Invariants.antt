use Rattle.std.proofs.Common.{length}
use Rattle.ways_lines.proofs.rule_text.+write_rows.Given as goal

abbrev pub decreases-write_rows : goal.decreases-write_rows
decreases-write_rows l = length l.rows.now
