use Rattle.std.proofs.Common.{arith, subst, sym}
use Rattle.data_cleanup.specs.Ledger.{AreNumbered}
use Rattle.data_cleanup.proofs.Sound.{sound_empty}
use Rattle.data_cleanup.proofs.ledger.Ledger.new.Goals as goal

pub invariant_of-result : goal.invariant_of-result
invariant_of-result c = record { sound = sound_empty _ _ c.new-2.ensures.items; room = rw c.new.ensures (omega arith); numbered = subst (AreNumbered 0) (sym c.new.ensures) tt }
