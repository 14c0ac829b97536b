use Rattle.laws_cost.proofs.RoundBoundFacts.{rounds_are_bounded}
use Rattle.laws_cost.proofs.DigestTextFacts.{digests_by_rounds}
use Rattle.laws_cost.proofs.laws.rounds_give_the_number_of_digests.Goals as goal

pub returns-clause-number : goal.returns-clause-number
returns-clause-number c = digests_by_rounds

pub returns-clause-bounded : goal.returns-clause-bounded
returns-clause-bounded c = rounds_are_bounded
