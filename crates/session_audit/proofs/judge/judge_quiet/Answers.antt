use Rattle.std.proofs.Common.{Some, None}
use Rattle.report_lines.specs.Form.{result_of}
use Rattle.session_audit.specs.Checked.{after_quiet, place_of, told_in}
use Rattle.session_audit.specs.Fits.{visits_told}
use Rattle.session_audit.proofs.CheckedBlockFacts.{told_some, told_none, told_first, quiet_told, quiet_as}
use Rattle.session_audit.proofs.judge.judge_quiet.Goals as goal

pub returns-then-first-told : goal.returns-then-first-told
returns-then-first-told c =
    let told = c.args.told.now in
    let first = c.first_visit-first.result in (
      quiet_told (visits_told (told_in told)) (after_quiet (place_of c.args.place) (result_of c.args.outcome))
          (told_some told first c.first_visit-first.ensures c.if-first-told.true),
      told_first told first c.first_visit-first.ensures,
    )

pub returns-in-Some : goal.returns-in-Some
returns-in-Some c =
    let told = c.args.told.now in
    quiet_as (visits_told (told_in told)) (after_quiet (place_of c.args.place) (result_of c.args.outcome)) (Some (place_of c.in-Some.slot_log))
    (told_none told c.first_visit-first.result c.first_visit-first.ensures c.if-first-told.false) c.in-Some.ensures

pub returns-in-None : goal.returns-in-None
returns-in-None c =
    let told = c.args.told.now in (
      quiet_as (visits_told (told_in told)) (after_quiet (place_of c.args.place) (result_of c.args.outcome)) None
          (told_none told c.first_visit-first.result c.first_visit-first.ensures c.if-first-told.false) c.in-None.ensures,
      told_first told c.first_visit-first.result c.first_visit-first.ensures,
    )
