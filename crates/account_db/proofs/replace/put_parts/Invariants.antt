use Rattle.std.proofs.Common.{◌≡◌, ◌++◌, length}
use Rattle.account_db.proofs.replace.put_parts.Given as goal

abbrev pub invariant-loop-part : goal.invariant-loop-part
invariant-loop-part l = l.texts ++ l.parts ≡ l.fn.texts ++ l.fn.parts

abbrev pub decreases-loop-part : goal.decreases-loop-part
decreases-loop-part l = length l.parts
