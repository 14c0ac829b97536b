use Rattle.record_reader.proofs.ItemTurnFacts.{item_turn, rest_turn}
use Rattle.record_reader.proofs.laws.found_item_is_a_turn.Goals as goal

pub returns-clause-item : goal.returns-clause-item
returns-clause-item g c = λ setting n item_size size before held d e x y p q result found finds. item_turn _ _ _ _ n item_size size before held d e x y p q found finds result

pub returns-clause-rest : goal.returns-clause-rest
returns-clause-rest g c = λ setting n before held d e x y p q result found finds. rest_turn _ _ _ _ (c.keeps.ensures setting) n before held d e x y p q found finds result
