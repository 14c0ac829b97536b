use Rattle.frame_stream.proofs.SpelledStepFacts.{run_is_of_steps, served_are_steps}
use Rattle.frame_stream.proofs.laws.runs_are_of_steps.Goals as goal

pub returns-clause-run : goal.returns-clause-run
returns-clause-run g c = λ setting. run_is_of_steps c.first_frame_settles.ensures c.frame_is_read.ensures c.frame_opens_by_the_table.ensures (g.R.CallStepping.answers setting)

pub returns-clause-served : goal.returns-clause-served
returns-clause-served g c = λ setting. served_are_steps c.first_frame_settles.ensures c.frame_is_read.ensures c.frame_opens_by_the_table.ensures (g.R.CallStepping.answers setting)
