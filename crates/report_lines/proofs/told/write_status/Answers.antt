use Rattle.std.proofs.Common.{rules, arith}
use Rattle.report_lines.proofs.told.write_status.Goals as goal
use Rattle.report_lines.proofs.StatusPaddingFacts.{status_is_padded}

pub returns : goal.returns
returns c = rw (← status_is_padded c.args.status (omega arith)) (search rules)
