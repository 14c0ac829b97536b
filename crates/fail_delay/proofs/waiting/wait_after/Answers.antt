use Rattle.std.proofs.Common.{ap, Some}
use Rattle.fail_delay.proofs.waiting.wait_after.Goals as goal

pub returns-in-Some-clause-wait : goal.returns-in-Some-clause-wait
returns-in-Some-clause-wait g c = λ number is. rw c.in-Some.is (ap Some (c.wait.ensures.number number (rw c.in-Some.is at is)))
