use Rattle.module_acts.proofs.TransactionStepFacts.{exchanging, with_items}
use Rattle.module_acts.proofs.asking.exchange.Goals as goal

pub returns-clause-told : goal.returns-clause-told
returns-clause-told g c = λ talks vault clock process.
    exchanging c.args.transaction.now c.say.new.transaction _ _ vault clock process (with_items c.args.transaction.now c.say.new.transaction c.say.ensures.others) c.say.result c.args.messages.now (c.say.ensures.told talks)
