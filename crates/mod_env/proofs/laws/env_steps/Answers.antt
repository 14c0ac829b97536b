use Rattle.mod_env.proofs.EnvironmentStepFacts.{seeing_env}
use Rattle.mod_env.proofs.laws.env_steps.Goals as goal

pub returns : goal.returns
returns c = record { seeing = seeing_env }
