use Rattle.std.proofs.Common.{true, false, sym, ◌∙◌}
use Rattle.report_lines.specs.Form.{result_of}
use Rattle.session_audit.specs.Checked.{told_in}
use Rattle.session_audit.specs.Fits.{visits_told, is_bad_number}
use Rattle.session_audit.proofs.CheckedBlockFacts.{told_some, told_none, told_first, and_no, both_are}
use Rattle.session_audit.proofs.places.judge_nowhere.Goals as goal

pub returns-then-first-told : goal.returns-then-first-told
returns-then-first-told c =
    let told = c.args.told.now in (
      λ stacks. and_no (is_bad_number stacks (result_of c.args.outcome)) _
          (told_some told c.first_visit-first.result c.first_visit-first.ensures c.if-first-told.true),
      told_first told c.first_visit-first.result c.first_visit-first.ensures,
    )

pub returns-then-is_bad_number : goal.returns-then-is_bad_number
returns-then-is_bad_number c =
    let told = c.args.told.now in
    λ stacks. both_are (is_bad_number stacks (result_of c.args.outcome)) true (visits_told (told_in told))
    (sym (c.is_bad_number.ensures stacks) ∙ c.if-is_bad_number.true) (told_none told c.first_visit-first.result c.first_visit-first.ensures
    c.if-first-told.false)

pub returns-else-is_bad_number : goal.returns-else-is_bad_number
returns-else-is_bad_number c =
    let told = c.args.told.now in (
      λ stacks. both_are (is_bad_number stacks (result_of c.args.outcome)) false (visits_told (told_in told))
          (sym (c.is_bad_number.ensures stacks) ∙ c.if-is_bad_number.false)
          (told_none told c.first_visit-first.result c.first_visit-first.ensures c.if-first-told.false),
      told_first told c.first_visit-first.result c.first_visit-first.ensures,
    )
