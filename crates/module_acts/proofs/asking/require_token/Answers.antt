use Rattle.module_acts.proofs.TransactionStepFacts.{asking_token}
use Rattle.module_acts.proofs.asking.require_token.Goals as goal

pub returns-clause-told : goal.returns-clause-told
returns-clause-told g c = λ talks vault clock process.
    asking_token c.args.transaction.now c.ask_token.new.transaction _ _ vault clock process c.ask_token.ensures.others c.ask_token.result c.args.old c.args.prompt.now (c.ask_token.ensures.told talks)
