use Rattle.report_lines.specs.Line.{missing_text}
use Rattle.report_step.proofs.ReportLineFacts.{line_joined}
use Rattle.report_step.proofs.missing.write_all_missing.Goals as goal

pub loop-name-preserved : goal.loop-name-preserved
loop-name-preserved c = line_joined (missing_text c.args.handle) c.args.names.now c.loop-name.name-index c.name-item.result _ _ _ c.name-item.is
    c.loop-name-test.true c.loop-name.invariant c.in_ok-write_missing.ensures
