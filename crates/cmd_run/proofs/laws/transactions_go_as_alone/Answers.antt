use Rattle.cmd_run.proofs.ClosingLineFacts.{closings_are, goes_as_alone}
use Rattle.cmd_run.proofs.IsolatedRunFacts.{texts_are, words_are}
use Rattle.cmd_run.proofs.ScriptLineFacts.{script_lines}
use Rattle.cmd_run.proofs.laws.transactions_go_as_alone.Goals as goal

pub returns : goal.returns
returns c = record {
  goes = goes_as_alone c.calls_keep_to_themselves.ensures.own c.calls_keep_to_themselves.ensures.other;
  texts = texts_are;
  words = words_are;
  closings = λ setting status. closings_are setting status;
  script = script_lines;
}
