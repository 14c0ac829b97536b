use Rattle.std.proofs.Common.{ap}
use Rattle.item_store.specs.Items.{ItemTexts}
use Rattle.pam_base.specs.declared.item.ItemName.TheVariants.{AuthTok}
use Rattle.mod_history.proofs.SecondPassFacts.{unsetting}
use Rattle.mod_history.proofs.refusal.unset_token.Goals as goal

pub returns-clause-told : goal.returns-clause-told
returns-clause-told c = λ conv vault clock process.
    unsetting c.args.transaction.now _ conv vault clock process AuthTok (ap (λ (i : ItemTexts). record c.args.transaction.now { items = i }) c.unset.ensures)
