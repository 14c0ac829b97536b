use Rattle.laws_audit.proofs.PrintableLoadFacts.{loaded_printable}
use Rattle.laws_audit.proofs.laws.loaded_stacks_are_printable.Goals as goal

pub returns : goal.returns
returns c = loaded_printable c.one_reading.ensures.reading
