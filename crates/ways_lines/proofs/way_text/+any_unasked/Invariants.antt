use Rattle.std.proofs.Common.{length}
use Rattle.ways_lines.proofs.way_text.+any_unasked.Given as goal

abbrev pub decreases-any_unasked : goal.decreases-any_unasked
decreases-any_unasked l = length l.ways.now
