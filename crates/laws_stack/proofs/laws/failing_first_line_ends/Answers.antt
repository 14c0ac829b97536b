use Rattle.laws_stack.proofs.FirstLineEndFacts.{failing_first_line_ends}
use Rattle.laws_stack.proofs.laws.failing_first_line_ends.Goals as goal

pub returns : goal.returns
returns g c = failing_first_line_ends _
