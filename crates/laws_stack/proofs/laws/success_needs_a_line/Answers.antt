use Rattle.laws_stack.proofs.DecisiveLineFacts.{success_needs_a_line}
use Rattle.laws_stack.proofs.laws.success_needs_a_line.Goals as goal

pub returns : goal.returns
returns g c = success_needs_a_line _
