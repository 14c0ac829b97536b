use Rattle.dispatch_core.proofs.RealObjectFacts.{sound_more}
use Rattle.dispatch_core.proofs.laws.soundness_is_transitive.Goals as goal

pub returns : goal.returns
returns c = sound_more c.staying_is_transitive.ensures c.growth_is_transitive.ensures
