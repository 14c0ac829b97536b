use Rattle.std.proofs.Common.{Ok}
use Rattle.mod_lists.specs.ListSettings.{settings_of}
use Rattle.mod_lists.specs.Listfile.{at_once, error_answer, listfile_act}
use Rattle.mod_lists.proofs.UserDecisionFacts.{by_list}
use Rattle.mod_lists.proofs.pam_listfile.ListfileCheckCheck.plays_so.Goals as goal

pub returns : goal.returns
returns c = λ call old new code played.
    c.act_steps.ensures.playing listfile_act call old new (Ok code)
    (rw (by_list (at_once call.func) (error_answer call.args) call.args (settings_of call.args)) at played)
