use Rattle.std.proofs.Common.{◌∙◌, sym}
use Rattle.mod_tally.specs.Settings.{plain_settings}
use Rattle.mod_tally.specs.Faillock.{task_for_account}
use Rattle.mod_tally.proofs.pam_faillock.check_user.Goals as goal

pub returns-then-is_no_file-clause-told : goal.returns-then-is_no_file-clause-told
returns-then-is_no_file-clause-told g c = λ tells clock ticks conv.
    let none = rw c.user_of-user.ensures at (sym c.is_no_file.ensures ∙ c.if-is_no_file.true) in
    rw none (c.act_steps.ensures.answers _ _ _)

pub returns-in-Unreadable-clause-told : goal.returns-in-Unreadable-clause-told
returns-in-Unreadable-clause-told g c = λ tells clock ticks conv.
    let some = rw c.user_of-user.ensures at (sym c.is_no_file.ensures ∙ c.if-is_no_file.false) in
    rw some ((rw (c.new-accounts.ensures, c.in-Unreadable.is) at (c.in_ok-account.ensures.told tells)) _ _ (task_for_account c.args.task (plain_settings c.args.settings.now) _) _ _ (c.act_steps.ensures.answers _ _ _))

pub returns-in-Missing-clause-told : goal.returns-in-Missing-clause-told
returns-in-Missing-clause-told g c = λ tells clock ticks conv.
    let some = rw c.user_of-user.ensures at (sym c.is_no_file.ensures ∙ c.if-is_no_file.false) in
    rw some ((rw (c.new-accounts.ensures, c.in-Missing.is) at (c.in_ok-account.ensures.told tells)) _ _ (task_for_account c.args.task (plain_settings c.args.settings.now) _) _ _ (c.act_steps.ensures.answers _ _ _))

pub returns-then-is_spared-clause-told : goal.returns-then-is_spared-clause-told
returns-then-is_spared-clause-told g c = λ tells clock ticks conv.
    let some = rw c.user_of-user.ensures at (sym c.is_no_file.ensures ∙ c.if-is_no_file.false) in
    let spared = sym c.is_spared.ensures ∙ c.if-is_spared.true in
    rw some ((rw (c.new-accounts.ensures, c.in-Found.is) at (c.in_ok-account.ensures.told tells)) _ _ (task_for_account c.args.task (plain_settings c.args.settings.now) _) _ _
    (rw (spared, c.spared_answer.ensures) (c.act_steps.ensures.answers _ _ _)))

pub returns-clause-told : goal.returns-clause-told
returns-clause-told g c = λ tells clock ticks conv.
    let some = rw c.user_of-user.ensures at (sym c.is_no_file.ensures ∙ c.if-is_no_file.false) in
    let counted = sym c.is_spared.ensures ∙ c.if-is_spared.false in
    rw some ((rw (c.new-accounts.ensures, c.in-Found.is) at (c.in_ok-account.ensures.told tells)) _ _ (task_for_account c.args.task (plain_settings c.args.settings.now) _) _ _
    (rw counted (c.in_ok-code-in-Found.ensures.told (c.in_ok-account.ensures.tells ∙ tells) clock ticks conv _)))
