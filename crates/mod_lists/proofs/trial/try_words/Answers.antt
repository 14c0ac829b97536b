use Rattle.pam_room.specs.Plain.{plain_transaction}
use Rattle.pam_room.specs.State.{room_of}
use Rattle.mod_lists.specs.Condition.{plain_test}
use Rattle.mod_lists.specs.SucceedIf.{on_account}
use Rattle.mod_lists.proofs.trial.try_words.Goals as goal

pub returns-in-None-clause-told : goal.returns-in-None-clause-told
returns-in-None-clause-told g c = λ tells conv clock act code end rest. rw c.in-None.is rest

pub returns-in-Item-clause-told : goal.returns-in-Item-clause-told
returns-in-Item-clause-told g c = λ tells conv clock act code end rest.
    rw (c.in-Some.is, c.in-On.is, c.in-Item.is) (c.act_steps.ensures.seeing _ _ _ _ _ (rw (c.on_text.ensures, c.item_text.ensures) at rest))

pub returns-in_ok-truth-in-Account-clause-told : goal.returns-in_ok-truth-in-Account-clause-told
returns-in_ok-truth-in-Account-clause-told g c = λ tells conv clock act code end rest.
    rw (c.in-Some.is, c.in-On.is, c.in-Account.is) (c.in_ok-account-in-Account.ensures.told tells (room_of (plain_transaction c.args.seen.now.transaction.now) conv) clock (λ account. act (on_account (plain_test c.in-On.test) c.in-Account.field account)) code end (rw c.in_ok-truth-in-Account.ensures at rest))

pub returns-in_ok-truth-in-Grouped-clause-told : goal.returns-in_ok-truth-in-Grouped-clause-told
returns-in_ok-truth-in-Grouped-clause-told g c = λ tells conv clock act code end rest.
    rw (c.in-Some.is, c.in-Grouped.is) (c.in_ok-truth-in-Grouped.ensures.told tells (room_of (plain_transaction c.args.seen.now.transaction.now) conv) clock act code end rest)
