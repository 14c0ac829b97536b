use Rattle.data_cleanup.proofs.Named.{named_none}
use Rattle.data_cleanup.proofs.data_list.DataList.new.Goals as goal

pub invariant_of-result : goal.invariant_of-result
invariant_of-result c = named_none _ c.new.ensures.empty
