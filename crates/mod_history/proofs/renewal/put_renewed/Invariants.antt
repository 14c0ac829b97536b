use Rattle.std.proofs.Common.{◌≡◌, ◌++◌, flat_map, length}
use Rattle.mod_history.specs.History.{whole_line}
use Rattle.mod_history.specs.Renewal.{renewed}
use Rattle.mod_history.proofs.renewal.put_renewed.Given as goal

abbrev pub invariant-loop-rest : goal.invariant-loop-rest
invariant-loop-rest l = l.out.items ++ flat_map whole_line (renewed l.remember l.user l.hash l.rest) ≡ l.fn.out.items ++ flat_map whole_line (renewed l.remember l.user l.hash l.history)

abbrev pub decreases-loop-rest : goal.decreases-loop-rest
decreases-loop-rest l = length l.rest
