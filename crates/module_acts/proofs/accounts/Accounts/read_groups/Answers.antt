use Rattle.module_acts.proofs.FileStepFacts.{knowing_groups, reading_groups}
use Rattle.module_acts.proofs.accounts.Accounts.read_groups.Goals as goal

pub returns-in_ok-found-clause-told : goal.returns-in_ok-found-clause-told
returns-in_ok-found-clause-told g c = λ tells.
    rw (← c.self.view_is, c.fill.ensures) (reading_groups _ _ _ _ _ _ c.if-is_none.ensures (rw c.bytes.ensures at (c.in_ok-content.ensures.told tells)) c.in_ok-found.ensures.found (c.in_ok-content.ensures.calls tells))

pub returns-else-is_none-clause-told : goal.returns-else-is_none-clause-told
returns-else-is_none-clause-told g c = λ tells. rw (← c.self.view_is) (knowing_groups _ _ _ c.if-is_none.ensures)
