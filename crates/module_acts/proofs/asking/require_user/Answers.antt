use Rattle.module_acts.proofs.TransactionStepFacts.{asking_user}
use Rattle.module_acts.proofs.asking.require_user.Goals as goal

pub returns-clause-told : goal.returns-clause-told
returns-clause-told g c = λ talks vault clock process.
    asking_user c.args.transaction.now c.get_user.new.transaction _ _ vault clock process c.get_user.ensures.asks.others c.get_user.result (c.get_user.ensures.asks.told talks)
