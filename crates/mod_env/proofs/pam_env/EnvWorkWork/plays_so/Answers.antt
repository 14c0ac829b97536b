use Rattle.std.proofs.Common.{Ok}
use Rattle.mod_env.specs.Env.{env_act}
use Rattle.mod_env.proofs.pam_env.EnvWorkWork.plays_so.Goals as goal

pub returns : goal.returns
returns c = λ call old new code played. c.act_steps.ensures.playing env_act call old new (Ok code) played
