use Rattle.std.proofs.Common.{◌≡◌, ◌+◌, length}
use Rattle.account_db.proofs.parts.has_parts.Given as goal

abbrev pub invariant-loop : goal.invariant-loop
invariant-loop l = l.counter + length l.parts ≡ length l.fn.parts
