use Rattle.env_list.proofs.Entries.{different_names}
use Rattle.env_list.proofs.environment.EnvList.new.Goals as goal

pub invariant_of-result : goal.invariant_of-result
invariant_of-result c = different_names _ c.new.ensures.unique
