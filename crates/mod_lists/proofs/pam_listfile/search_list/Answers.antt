use Rattle.std.proofs.Common.{◌∙◌}
use Rattle.pam_room.specs.Plain.{plain_transaction}
use Rattle.pam_room.specs.State.{room_of}
use Rattle.mod_lists.proofs.pam_listfile.search_list.Goals as goal

pub returns-in-No-clause-told : goal.returns-in-No-clause-told
returns-in-No-clause-told g c = λ tells conv clock.
    (rw (c.apply_of-apply.ensures, c.new-accounts.ensures) at (c.in_ok-applies.ensures.told tells)) _ clock _ _ _ (rw c.in-No.is (c.act_steps.ensures.answers _ _ _))

pub returns-in-Unknown-clause-told : goal.returns-in-Unknown-clause-told
returns-in-Unknown-clause-told g c = λ tells conv clock.
    (rw (c.apply_of-apply.ensures, c.new-accounts.ensures) at (c.in_ok-applies.ensures.told tells)) _ clock _ _ _
    (rw (c.in-Unknown.is, c.error_answer.ensures) (c.act_steps.ensures.answers _ _ _))

pub returns-clause-told : goal.returns-clause-told
returns-clause-told g c = λ tells conv clock.
    let room = room_of (plain_transaction c.args.seen.now.transaction.now) conv in
    let first = c.in_ok-applies.ensures.tells ∙ tells in
    let second = c.in_ok-values-in-Yes.ensures.tells ∙ first in
    (rw (c.apply_of-apply.ensures, c.new-accounts.ensures) at (c.in_ok-applies.ensures.told tells)) _ clock _ _ _
    (rw c.in-Yes.is (c.in_ok-values-in-Yes.ensures.told first conv clock _ _ _ (c.in_ok-code-in-Yes.ensures.told second room clock c.values_of.new.accounts)))
