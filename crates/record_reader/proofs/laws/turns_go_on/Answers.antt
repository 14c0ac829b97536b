use Rattle.record_reader.proofs.TurnSequenceFacts.{turns_then}
use Rattle.record_reader.proofs.laws.turns_go_on.Goals as goal

pub returns : goal.returns
returns g c = λ setting. turns_then _ _ _
