use Rattle.std.proofs.Common.{Ok}
use Rattle.mod_lists.specs.SucceedIf.{at_once, succeed_if_act, uses_uid}
use Rattle.mod_lists.proofs.UserDecisionFacts.{by_conditions}
use Rattle.mod_lists.proofs.pam_succeed_if.SucceedIfCheckCheck.plays_so.Goals as goal

pub returns : goal.returns
returns c = λ call old new code played.
    c.act_steps.ensures.playing succeed_if_act call old new (Ok code)
    (rw (by_conditions (at_once call.func) (uses_uid call.args) call.args) at played)
