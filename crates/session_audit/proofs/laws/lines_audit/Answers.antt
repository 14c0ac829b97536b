use Rattle.report_lines.specs.Guess.{read_line}
use Rattle.session_audit.proofs.AuditReaderFacts.{readers_audit}
use Rattle.session_audit.proofs.laws.lines_audit.Goals as goal

pub returns : goal.returns
returns c = readers_audit read_line c.reads_lines.ensures
