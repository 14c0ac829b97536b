use Rattle.module_acts.specs.Accounts.{nothing_known}
use Rattle.module_acts.specs.Act.{answers}
use Rattle.module_acts.proofs.ReturnedResultFacts.{refused, unanswered}
use Rattle.module_acts.proofs.ending.code_or_conv_err.Goals as goal

pub returns-in-Ok-clause-told : goal.returns-in-Ok-clause-told
returns-in-Ok-clause-told c = λ step old new h. (rw c.in-Ok.is at h) answers nothing_known _ _ (c.act_steps.ensures.answers _ _ _)

pub returns-in-Ok-clause-finished : goal.returns-in-Ok-clause-finished
returns-in-Ok-clause-finished c = λ act old new h. rw c.in-Ok.is at h

pub returns-in-Named-clause-told : goal.returns-in-Named-clause-told
returns-in-Named-clause-told c = λ step old new h. refused c.in-Err.refused _ step answers old new c.in-Named.is (rw c.in-Err.is at h)

pub returns-in-Named-clause-finished : goal.returns-in-Named-clause-finished
returns-in-Named-clause-finished c = λ act old new h. unanswered c.in-Err.refused _ act old new c.in-Named.is (rw c.in-Err.is at h)
