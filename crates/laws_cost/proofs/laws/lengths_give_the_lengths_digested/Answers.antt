use Rattle.laws_cost.proofs.RoundBoundFacts.{lengths_by_lengths}
use Rattle.laws_cost.proofs.laws.lengths_give_the_lengths_digested.Goals as goal

pub returns : goal.returns
returns c = lengths_by_lengths
