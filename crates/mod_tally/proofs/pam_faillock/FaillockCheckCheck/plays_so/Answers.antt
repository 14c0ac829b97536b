use Rattle.std.proofs.Common.{Ok}
use Rattle.mod_tally.specs.Settings.{settings_of, task_among}
use Rattle.mod_tally.specs.Faillock.{faillock_act, task_of}
use Rattle.mod_tally.proofs.UserDecisionFacts.{by_task_asked}
use Rattle.mod_tally.proofs.pam_faillock.FaillockCheckCheck.plays_so.Goals as goal

pub returns : goal.returns
returns c = λ call old new code played.
    c.act_steps.ensures.playing faillock_act call old new (Ok code)
    (rw (by_task_asked (task_of call.func (task_among call.args)) (settings_of call.args)) at played)
