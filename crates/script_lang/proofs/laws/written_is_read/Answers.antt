use Rattle.script_lang.proofs.StepLineFacts.{written_is_read}
use Rattle.script_lang.proofs.laws.written_is_read.Goals as goal

pub returns : goal.returns
returns c = written_is_read
