use Rattle.std.proofs.Common.{Ok}
use Rattle.mod_history.specs.Pwhistory.{pwhistory_act}
use Rattle.mod_history.proofs.pam_pwhistory.PwhistoryWorkWork.plays_so.Goals as goal

pub returns : goal.returns
returns c = λ call old new code played. c.act_steps.ensures.playing pwhistory_act call old new (Ok code) played
