use Rattle.std.proofs.Common.{◌≡◌, ◌<◌, ◌-◌, ◌++◌, suc, length, Option, arith, subst}
use Rattle.std.specs.Prelude.{OnOk, string_bytes}
use Rattle.pass_replay.specs.Retold.{stacks_in}
use Rattle.report_lines.specs.Form.{result_of}
use Rattle.session_audit.specs.Checked.{told_in}
use Rattle.session_audit.specs.Fits.{SlotLog, visits_told}
use Rattle.explain_report.specs.Report.{block_text}
use Rattle.explain_report.proofs.ReportTextFacts.{at_place}
use Rattle.explain_report.proofs.explainer.write_block.Goals as goal

pub returns : goal.returns
returns c =
    let places = c.args.places.now in
    let block = c.args.block.now in
    let one : block.number ≡ suc (block.number - 1) = omega (arith, c.if-number-eq0.false, c.if-number-places.false) in
    let within : block.number - 1 < length places = omega (arith, c.if-number-eq0.false, c.if-number-places.false) in
    subst (λ (p : Option SlotLog). OnOk c.write_at.result (string_bytes c.write_at.new.text ≡ string_bytes c.args.text.now
    ++ block_text (stacks_in block.trees.now) block.sources.now block.number p (visits_told (told_in block.told.now)) (result_of block.outcome)))
    (at_place places (block.number - 1) block.number _ _ one within c.index-places-number.is) c.write_at.ensures
