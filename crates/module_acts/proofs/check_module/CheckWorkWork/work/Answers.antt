use Rattle.std.proofs.Common.{Err, rules, ◌≡◌}
use Rattle.module_acts.specs.Act.{asks_user}
use Rattle.module_acts.specs.Returns.{finished_early}
use Rattle.module_acts.proofs.check_module.CheckWorkWork.work.Goals as goal

pub returns-in_err-require_user-clause-told : goal.returns-in_err-require_user-clause-told
returns-in_err-require_user-clause-told g c = λ talks tells clock ticks.
    let answered : c.from_residual.result ≡ Err c.in_err-require_user.field-0.0 = search rules in
    rw answered (finished_early asks_user _ _ _ _ (c.in_err-require_user.ensures.told talks _ _ _))

pub returns-clause-told : goal.returns-clause-told
returns-clause-told g c = λ talks tells clock ticks.
    c.in_ok-require_user.ensures.told talks _ _ _ _ _ _ _
    (c.in_ok-code.ensures.told tells clock ticks _)
