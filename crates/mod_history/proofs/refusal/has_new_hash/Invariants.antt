use Rattle.std.proofs.Common.{◌≡◌, length}
use Rattle.std.specs.List.{list_any}
use Rattle.mod_history.specs.Pwhistory.{has_hash, was_used}
use Rattle.mod_history.proofs.refusal.has_new_hash.Given as goal

abbrev pub invariant-loop-rest : goal.invariant-loop-rest
invariant-loop-rest l = list_any (has_hash l.token) l.rest ≡ was_used l.token l.hash l.hashes

abbrev pub decreases-loop-rest : goal.decreases-loop-rest
decreases-loop-rest l = length l.rest
