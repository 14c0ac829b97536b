use Rattle.script_lang.proofs.ValidStepFacts.{read_fit}
use Rattle.script_lang.proofs.line.parse.Goals as goal

pub returns-clause-fit : goal.returns-clause-fit
returns-clause-fit c = read_fit c.without_return-text.result.now c.command_line.result c.if-text-gt-MAX_LINE.false c.command_line.ensures.ok
