use Rattle.std.proofs.Common.{Ok}
use Rattle.mod_lists.specs.Nologin.{nologin_act}
use Rattle.mod_lists.proofs.pam_nologin.NologinWorkWork.plays_so.Goals as goal

pub returns : goal.returns
returns c = λ call old new code played. c.act_steps.ensures.playing nologin_act call old new (Ok code) played
