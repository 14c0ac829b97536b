use Rattle.module_acts.proofs.FileStepFacts.{knowing_passwds, reading_passwds}
use Rattle.module_acts.proofs.accounts.Accounts.read_passwds.Goals as goal

pub returns-in_ok-content-clause-told : goal.returns-in_ok-content-clause-told
returns-in_ok-content-clause-told g c = λ tells.
    rw (← c.self.view_is, c.fill.ensures) (reading_passwds _ _ _ _ _ _ c.if-is_none.ensures (rw c.bytes.ensures at (c.in_ok-content.ensures.told tells)) c.passwds_in-found.ensures (c.in_ok-content.ensures.calls tells))

pub returns-else-is_none-clause-told : goal.returns-else-is_none-clause-told
returns-else-is_none-clause-told g c = λ tells. rw (← c.self.view_is) (knowing_passwds _ _ _ c.if-is_none.ensures)
