use Rattle.mod_tally.proofs.ListReadFacts.{gone_on}
use Rattle.mod_tally.proofs.source.unspelled.Goals as goal

pub loop-rest-preserved : goal.loop-rest-preserved
loop-rest-preserved c = gone_on c.loop-rest.source c.push.new.self c.in-Some.first.byte _ _ _ c.loop-rest.invariant c.in-Some.ensures.some c.in_ok-push-in-Some.ensures.ok
