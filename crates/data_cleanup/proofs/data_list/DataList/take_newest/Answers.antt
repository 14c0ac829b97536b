use Rattle.data_cleanup.proofs.Named.{named_front}
use Rattle.data_cleanup.proofs.data_list.DataList.take_newest.Goals as goal

pub invariant_of-self-2 : goal.invariant_of-self-2
invariant_of-self-2 c = named_front _ _ (rw c.pop.ensures.entries at c.self.invariant)
