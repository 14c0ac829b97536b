use Rattle.std.proofs.Common.{arith, false, true, ◌==◌, ◌∙◌, ◌≡◌}
use Rattle.std.proofs.lemmas.Bool.Decides.{nat_tests}
use Rattle.mod_history.specs.Securetty.{terminal_for_account}
use Rattle.mod_history.proofs.pam_securetty.SecurettyCheckCheck.decide.Goals as goal

pub returns-in-Unreadable-clause-told : goal.returns-in-Unreadable-clause-told
returns-in-Unreadable-clause-told g c = λ tells clock ticks conv.
    (rw (c.new-accounts.ensures, c.in-Unreadable.is) at (c.in_ok-account.ensures.told tells)) _ _ terminal_for_account _ _ (c.act_steps.ensures.answers _ _ _)

pub returns-in-Missing-clause-told : goal.returns-in-Missing-clause-told
returns-in-Missing-clause-told g c = λ tells clock ticks conv.
    (rw (c.new-accounts.ensures, c.in-Missing.is) at (c.in_ok-account.ensures.told tells)) _ _ terminal_for_account _ _ (c.act_steps.ensures.answers _ _ _)

pub returns-then-entry-ne0-clause-told : goal.returns-then-entry-ne0-clause-told
returns-then-entry-ne0-clause-told g c = λ tells clock ticks conv.
    let other : (c.in-Found.entry.uid == 0) ≡ false = grind (arith, nat_tests) in
    (rw (c.new-accounts.ensures, c.in-Found.is) at (c.in_ok-account.ensures.told tells)) _ _ terminal_for_account _ _
    (rw other (c.act_steps.ensures.answers _ _ _))

pub returns-clause-told : goal.returns-clause-told
returns-clause-told g c = λ tells clock ticks conv.
    let root : (c.in-Found.entry.uid == 0) ≡ true = grind (arith, nat_tests) in
    (rw (c.new-accounts.ensures, c.in-Found.is) at (c.in_ok-account.ensures.told tells)) _ _ terminal_for_account _ _
    (rw root (c.in_ok-code.ensures.told (c.in_ok-account.ensures.tells ∙ tells) conv _ _))
