use Rattle.std.proofs.Common.{◌≡◌, ◌++◌, length}
use Rattle.module_table.proofs.entry.words_in.Given as goal

abbrev pub invariant-loop-part : goal.invariant-loop-part
invariant-loop-part l = l.words ++ l.parts ≡ l.fn.parts

abbrev pub decreases-loop-part : goal.decreases-loop-part
decreases-loop-part l = length l.parts
