use Rattle.conf_lex.proofs.FirstFaultFacts.{one_first_fault}
use Rattle.conf_lex.proofs.laws.one_first_fault.Goals as goal

pub returns : goal.returns
returns c = one_first_fault
