use Rattle.cmd_run.proofs.ScriptRunFacts.{completes_script, ends_script, reads_script, runs_script}
use Rattle.cmd_run.proofs.script.ScriptProtocol.ends.Goals as goal

pub returns-clause-told : goal.returns-clause-told
returns-clause-told c = runs_script c.whole_input_is_looked_at.ensures (λ setting. c.calls_add_their_events.ensures)
    (λ setting code. c.end_adds_its_event.ensures)

pub returns-clause-read : goal.returns-clause-read
returns-clause-read c = reads_script

pub returns-clause-complete : goal.returns-clause-complete
returns-clause-complete c = completes_script

pub returns-clause-ends : goal.returns-clause-ends
returns-clause-ends c = ends_script c.whole_input_is_looked_at.ensures
