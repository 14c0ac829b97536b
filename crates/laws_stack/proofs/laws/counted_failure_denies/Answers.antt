use Rattle.laws_stack.proofs.CountedCodeFacts.{counted_failure_denies}
use Rattle.laws_stack.proofs.laws.counted_failure_denies.Goals as goal

pub returns : goal.returns
returns g c = counted_failure_denies _
