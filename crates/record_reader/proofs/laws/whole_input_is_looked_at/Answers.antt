use Rattle.record_reader.proofs.SeenLineFacts.{looked-all}
use Rattle.record_reader.proofs.laws.whole_input_is_looked_at.Goals as goal

pub returns : goal.returns
returns c = looked-all
