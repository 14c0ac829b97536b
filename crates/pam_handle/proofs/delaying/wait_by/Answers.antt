use Rattle.pam_handle.proofs.delaying.wait_by.Goals as goal

pub returns-then-delay_on-clause-wait : goal.returns-then-delay_on-clause-wait
returns-then-delay_on-clause-wait g c = λ number is. rw c.if-delay_on.true (c.wait_after.ensures.wait number is)

pub returns-else-delay_on-clause-wait : goal.returns-else-delay_on-clause-wait
returns-else-delay_on-clause-wait g c = λ number is. rw c.if-delay_on.false (c.wait_after-else-delay_on.ensures.wait number tt)

pub returns-else-delay_on-clause-off : goal.returns-else-delay_on-clause-off
returns-else-delay_on-clause-off g c = λ number off. c.wait_after-else-delay_on.ensures.wait number tt
