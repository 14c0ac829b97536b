use Rattle.std.proofs.Common.{Ok}
use Rattle.pam_base.specs.declared.code.Code.TheVariants.{Success}
use Rattle.module_acts.specs.Uncheck.{code_unchecked}
use Rattle.mod_history.specs.Wheel.{checks_user, wheel_act}
use Rattle.mod_history.proofs.CallerFacts.{seen}
use Rattle.mod_history.proofs.pam_wheel.WheelCheckCheck.plays_so.Goals as goal

pub returns : goal.returns
returns c = λ call old new code played.
    c.act_steps.ensures.playing wheel_act call old new (Ok code)
    (seen c.acting.ensures.caller (code_unchecked call.func Success) (checks_user call.args) old new code played)
