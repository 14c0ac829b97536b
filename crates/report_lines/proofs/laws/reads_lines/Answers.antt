use Rattle.report_lines.proofs.LineFormFacts.{reads_lines}
use Rattle.report_lines.proofs.laws.reads_lines.Goals as goal

pub returns : goal.returns
returns c = reads_lines
