use Rattle.std.proofs.Common.{◌≡◌, [], ◌++◌, length}
use Rattle.std.specs.Prelude.{string_bytes}
use Rattle.pass_replay.specs.Retold.{stacks_in}
use Rattle.session_audit.specs.Checked.{bare_lines}
use Rattle.session_audit.specs.Fits.{all_shut}
use Rattle.explain_report.specs.Report.{explained_from, left_of}
use Rattle.explain_report.proofs.report.explain_report.Given as goal

abbrev pub invariant-loop-n : goal.invariant-loop-n
invariant-loop-n l =
    string_bytes l.explainer.text ++ left_of (stacks_in l.trees) l.sources l.explainer (bare_lines l.rest)
    ≡ explained_from (stacks_in l.trees) l.sources all_shut [] (bare_lines l.report)

abbrev pub decreases-loop-n : goal.decreases-loop-n
decreases-loop-n l = length l.rest
