use Rattle.std.proofs.Common.{ap}
use Rattle.pam_room.specs.item_store.specs.Items.{ItemTexts}
use Rattle.pam_base.specs.declared.item.ItemName.TheVariants.{AuthTok}
use Rattle.module_acts.proofs.TransactionStepFacts.{setting}
use Rattle.module_acts.proofs.changing.set_token.Goals as goal

pub returns-clause-told : goal.returns-clause-told
returns-clause-told c = λ conv vault clock process.
    setting c.args.transaction.now _ conv vault clock process AuthTok c.args.token.now (ap (λ (i : ItemTexts). record c.args.transaction.now { items = i }) c.in_ok-set_item.ensures.ok)
