use Rattle.service_load.proofs.CallCountFacts.{look_counts}
use Rattle.service_load.proofs.laws.each_opening_is_a_call.Goals as goal

pub returns : goal.returns
returns c = look_counts
