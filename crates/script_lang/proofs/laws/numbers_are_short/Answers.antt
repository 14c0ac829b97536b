use Rattle.script_lang.proofs.TransactionNumberFacts.{reads_numbers}
use Rattle.script_lang.proofs.laws.numbers_are_short.Goals as goal

pub returns : goal.returns
returns c = reads_numbers
