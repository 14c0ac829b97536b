use Rattle.record_reader.proofs.ItemTurnFacts.{fault_turn, end_turn}
use Rattle.record_reader.proofs.laws.nothing_found_is_a_turn.Goals as goal

pub returns-clause-fault : goal.returns-clause-fault
returns-clause-fault g c = λ setting. fault_turn _ _ _ _

pub returns-clause-end : goal.returns-clause-end
returns-clause-end g c = λ setting. end_turn _ _ _ _ c.cuts.ensures
