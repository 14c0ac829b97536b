use Rattle.std.proofs.Common.{◌≡◌, ◌++◌, flat_map, length}
use Rattle.mod_history.specs.History.{hash_text}
use Rattle.mod_history.proofs.renewal.put_hashes.Given as goal

abbrev pub invariant-loop-rest : goal.invariant-loop-rest
invariant-loop-rest l = l.out.items ++ flat_map hash_text l.rest ≡ l.fn.out.items ++ flat_map hash_text l.hashes

abbrev pub decreases-loop-rest : goal.decreases-loop-rest
decreases-loop-rest l = length l.rest
