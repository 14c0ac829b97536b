use Rattle.conf_lex.proofs.FirstFaultFacts.{one_spelling}
use Rattle.conf_lex.proofs.laws.one_spelling.Goals as goal

pub returns : goal.returns
returns c = one_spelling
