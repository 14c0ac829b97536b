use Rattle.std.proofs.Common.{refl}
use Rattle.module_acts.proofs.TransactionStepFacts.{keeping}
use Rattle.module_acts.proofs.changing.answer_and_keep.Goals as goal

pub returns-clause-told : goal.returns-clause-told
returns-clause-told c = λ conv vault clock. keeping _ _ conv vault clock _ _ _ c.args.code c.requires c.in_ok-set_data.ensures.others refl c.in_ok-set_data.ensures.ok
