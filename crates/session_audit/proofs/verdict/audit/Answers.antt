use Rattle.std.proofs.Common.{◌≡◌, ◌∙◌, sym}
use Rattle.pass_replay.specs.Retold.{stacks_in}
use Rattle.report_lines.specs.Guess.{read_line}
use Rattle.session_audit.specs.Checked.{line_of}
use Rattle.session_audit.specs.Differs.{differs}
use Rattle.session_audit.specs.Whole.{lines_read}
use Rattle.session_audit.proofs.FormatOnlyFacts.{differs-bare}
use Rattle.session_audit.proofs.RestOfTextFacts.{fits_names, named_fits}
use Rattle.session_audit.proofs.verdict.audit.Goals as goal

pub returns-clause-line : goal.returns-clause-line
returns-clause-line c = c.in_ok-verdict.ensures ∙ differs-bare (stacks_in c.args.trees.now) (lines_read read_line c.args.text.now)

pub returns-clause-fits : goal.returns-clause-fits
returns-clause-fits c =
    let stacks = stacks_in c.args.trees.now in
    let text = c.args.text.now in
    let named : line_of c.in_ok-verdict.verdict ≡ differs stacks (lines_read read_line text) = c.in_ok-verdict.ensures
    ∙ differs-bare stacks (lines_read read_line text) in (
      λ is. c.lines_audit.ensures.sound stacks text (sym named ∙ fits_names c.in_ok-verdict.verdict is),
      λ fits. named_fits c.in_ok-verdict.verdict (named ∙ c.lines_audit.ensures.complete stacks text fits),
    )
