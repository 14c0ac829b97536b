use Rattle.std.proofs.Common.{length}
use Rattle.ways_lines.proofs.way_text.+any_granting.Given as goal

abbrev pub decreases-any_granting : goal.decreases-any_granting
decreases-any_granting l = length l.ways.now
