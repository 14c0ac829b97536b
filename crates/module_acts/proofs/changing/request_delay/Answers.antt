use Rattle.std.proofs.Common.{refl}
use Rattle.module_acts.proofs.TransactionStepFacts.{delaying}
use Rattle.module_acts.proofs.changing.request_delay.Goals as goal

pub returns-clause-told : goal.returns-clause-told
returns-clause-told c = λ conv vault clock process. delaying c.args.transaction.now (record c.args.transaction.now { delay = c.request.new.self }) conv vault clock process c.args.micros _ c.request.ensures refl
