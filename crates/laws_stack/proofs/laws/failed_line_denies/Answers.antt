use Rattle.laws_stack.proofs.DecisiveLineFacts.{failed_line_denies, failed_required_denies}
use Rattle.laws_stack.proofs.laws.failed_line_denies.Goals as goal

pub returns-clause-line : goal.returns-clause-line
returns-clause-line g c = failed_line_denies _

pub returns-clause-required : goal.returns-clause-required
returns-clause-required g c = failed_required_denies _
