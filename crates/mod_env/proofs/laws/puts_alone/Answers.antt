use Rattle.mod_env.proofs.EnvironmentStepFacts.{puts_more, puts_nothing, putting_no_data}
use Rattle.mod_env.proofs.laws.puts_alone.Goals as goal

pub returns-clause-none : goal.returns-clause-none
returns-clause-none c = puts_nothing

pub returns-clause-again : goal.returns-clause-again
returns-clause-again c = puts_more

pub returns-clause-no_data : goal.returns-clause-no_data
returns-clause-no_data c = putting_no_data
