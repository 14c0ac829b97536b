use Rattle.cmd_run.proofs.LineEffectFacts.{lines_do}
use Rattle.cmd_run.proofs.script.ScriptProtocol.does.Goals as goal

pub returns : goal.returns
returns c = lines_do
