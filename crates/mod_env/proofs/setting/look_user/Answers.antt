use Rattle.mod_env.specs.Env.{finds_entry}
use Rattle.mod_env.proofs.SetVariableFacts.{by_found, by_none}
use Rattle.mod_env.proofs.setting.look_user.Goals as goal

pub returns-in_ok-read_passwds-in-Some-clause-told : goal.returns-in_ok-read_passwds-in-Some-clause-told
returns-in_ok-read_passwds-in-Some-clause-told g c = λ tells conv clock act code end rest.
    let steps = c.act_steps.ensures in
    steps.seeing (λ items. finds_entry items.user act) _ _ code end (by_found _ _ act _ _ _ _ code end c.in-Some.ensures
    (λ act' a. c.in_ok-read_passwds-in-Some.ensures.told tells _ clock act' code end a) rest)

pub returns-in-None-clause-told : goal.returns-in-None-clause-told
returns-in-None-clause-told g c = λ tells conv clock act code end rest. c.act_steps.ensures.seeing (λ items. finds_entry items.user act) _ _ code end (by_none _ act _ _ code end c.in-None.ensures rest)
