use Rattle.std.proofs.Common.{◌≡◌, ◌==◌, false, arith}
use Rattle.std.proofs.lemmas.Bool.Decides.{nat_tests}
use Rattle.pam_outside.specs.Files.{VaultState}
use Rattle.pam_room.specs.State.{PlainProcess}
use Rattle.mod_lists.proofs.pam_nologin.after_notice.Goals as goal

pub returns-in-Absent-clause-told : goal.returns-in-Absent-clause-told
returns-in-Absent-clause-told g c = λ talks tells clock. rw c.in-Absent.is (c.act_steps.ensures.answers _ _ _)

pub returns-in-Unreadable-clause-told : goal.returns-in-Unreadable-clause-told
returns-in-Unreadable-clause-told g c = λ talks tells clock. rw c.in-Unreadable.is (c.act_steps.ensures.answers _ _ _)

pub returns-in-Unreadable-account-clause-told : goal.returns-in-Unreadable-account-clause-told
returns-in-Unreadable-account-clause-told g c = λ talks tells clock.
    let steps = c.act_steps.ensures in
    let account = rw (c.in-Unreadable-account.is, c.user_of.ensures) at c.in_ok-account.ensures in
    rw c.in-Holds.is ((rw c.new-accounts.ensures at (c.in_ok-read_passwds.ensures.told tells)) _ clock _ _ _
    (rw (← account) (steps.answers _ _ _)))

pub returns-in-Missing-clause-told : goal.returns-in-Missing-clause-told
returns-in-Missing-clause-told g c = λ talks tells clock.
    let steps = c.act_steps.ensures in
    let account = rw (c.in-Missing.is, c.user_of.ensures) at c.in_ok-account.ensures in
    let shown = λ (vault : VaultState) (process : PlainProcess). rw c.bytes-notice.ensures at (c.in_ok-show-in-Missing.ensures.told talks vault clock process) in
    rw c.in-Holds.is ((rw c.new-accounts.ensures at (c.in_ok-read_passwds.ensures.told tells)) _ clock _ _ _
    (rw (← account) (shown _ _ _ _ _ _ (steps.answers _ _ _))))

pub returns-then-entry-eq0-clause-told : goal.returns-then-entry-eq0-clause-told
returns-then-entry-eq0-clause-told g c = λ talks tells clock.
    let steps = c.act_steps.ensures in
    let account = rw (c.in-Found.is, c.user_of.ensures) at c.in_ok-account.ensures in
    let shown = λ (vault : VaultState) (process : PlainProcess). rw c.bytes-notice.ensures at (c.in_ok-show-in-Found.ensures.told talks vault clock process) in
    rw c.in-Holds.is ((rw c.new-accounts.ensures at (c.in_ok-read_passwds.ensures.told tells)) _ clock _ _ _
    (rw (← account, c.if-entry-eq0.true) (shown _ _ _ _ _ _ (steps.answers _ _ _))))

pub returns-clause-told : goal.returns-clause-told
returns-clause-told g c = λ talks tells clock.
    let steps = c.act_steps.ensures in
    let account = rw (c.in-Found.is, c.user_of.ensures) at c.in_ok-account.ensures in
    let other : (c.in-Found.entry.uid == 0) ≡ false = grind (arith, nat_tests) in
    let shown = λ (vault : VaultState) (process : PlainProcess). rw c.bytes-notice.ensures at (c.in_ok-show-in-Found-2.ensures.told talks vault clock process) in
    rw c.in-Holds.is ((rw c.new-accounts.ensures at (c.in_ok-read_passwds.ensures.told tells)) _ clock _ _ _
    (rw (← account, other) (shown _ _ _ _ _ _ (steps.answers _ _ _))))
