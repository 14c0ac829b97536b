use Rattle.record_reader.proofs.TurnSequenceFacts.{no_turn, no_memory}
use Rattle.record_reader.proofs.laws.first_turn.Goals as goal

pub returns-clause-none_yet : goal.returns-clause-none_yet
returns-clause-none_yet g c = λ setting. no_turn _ _ _

pub returns-clause-no_memory : goal.returns-clause-no_memory
returns-clause-no_memory g c = λ setting. no_memory _ _ _
