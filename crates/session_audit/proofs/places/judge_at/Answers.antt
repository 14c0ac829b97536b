use Rattle.std.proofs.Common.{◌≡◌, true, false, ◌-◌, ◌&&◌, ltb, leb, ℕ, length, Some, arith, sym, ◌∙◌, ap}
use Rattle.std.specs.Prelude.{slice_get}
use Rattle.report_lines.specs.Form.{result_of}
use Rattle.pass_replay.specs.Retold.{stacks_in}
use Rattle.session_audit.specs.Checked.{told_in}
use Rattle.session_audit.proofs.FirstDifferenceFacts.{index_of, a_place, no_place, get_some, placed_line, placed_none, fits_at, nowhere_is}
use Rattle.session_audit.proofs.places.judge_at.Goals as goal

pub returns-then-not-has_place : goal.returns-then-not-has_place
returns-then-not-has_place c =
    let items = c.args.places.now.items in
    let n_is : length items ≡ c.len.result = omega (arith, c.args.places.now.ok.0, c.len.ensures) in
    let has : (ltb 0 c.args.number && leb c.args.number (length items)) ≡ false =
    ap (λ (n : ℕ). ltb 0 c.args.number && leb c.args.number n) n_is ∙ sym c.has_place.ensures ∙ c.if-not-has_place.true in
    nowhere_is (stacks_in c.args.trees.now) items c.args.number (told_in c.args.told.now) (result_of c.args.outcome) c.judge_nowhere.result
    (no_place items c.args.number has) c.judge_nowhere.ensures

pub returns-in-Fits : goal.returns-in-Fits
returns-in-Fits c =
    let items = c.args.places.now.items in
    let n_is : length items ≡ c.len.result = omega (arith, c.args.places.now.ok.0, c.len.ensures) in
    let has : (ltb 0 c.args.number && leb c.args.number (length items)) ≡ true =
    ap (λ (n : ℕ). ltb 0 c.args.number && leb c.args.number n) n_is ∙ sym c.has_place.ensures ∙ c.if-not-has_place.false in
    let judged = rw c.in-Fits.is at c.in_ok-slot_log.ensures in
    fits_at (stacks_in c.args.trees.now) items c.args.number c.replace-place.result c.replace-place.new.dest c.in-Fits.slot_log (told_in c.args.told.now)
    (result_of c.args.outcome)
    (index_of c.args.number (length items) has)
    (get_some items (c.args.number - 1) c.replace-place.result _ (a_place items c.args.number has)
    (c.replace-place.ensures.value ∙ c.index_mut.ensures.value)) judged

pub returns-in-Differs : goal.returns-in-Differs
returns-in-Differs c =
    let items = c.args.places.now.items in
    let n_is : length items ≡ c.len.result = omega (arith, c.args.places.now.ok.0, c.len.ensures) in
    let has : (ltb 0 c.args.number && leb c.args.number (length items)) ≡ true =
    ap (λ (n : ℕ). ltb 0 c.args.number && leb c.args.number n) n_is ∙ sym c.has_place.ensures ∙ c.if-not-has_place.false in
    let at : slice_get items (c.args.number - 1) ≡ Some c.replace-place.result =
    get_some items (c.args.number - 1) c.replace-place.result _ (a_place items c.args.number has) (c.replace-place.ensures.value ∙ c.index_mut.ensures.value) in
    let judged = rw c.in-Differs.is at c.in_ok-slot_log.ensures in (
      placed_none (stacks_in c.args.trees.now) items (c.args.number - 1) c.args.number c.replace-place.result (told_in c.args.told.now)
          (result_of c.args.outcome)
          (index_of c.args.number (length items) has) at judged.0,
      placed_line (stacks_in c.args.trees.now) items (c.args.number - 1) c.args.number c.in-Differs.line c.replace-place.result (told_in c.args.told.now)
          (result_of c.args.outcome)
          (index_of c.args.number (length items) has) at judged.1,
    )
