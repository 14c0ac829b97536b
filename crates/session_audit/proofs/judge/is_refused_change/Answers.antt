use Rattle.std.proofs.Common.{List, [], sym, ◌∙◌, ap}
use Rattle.handler_chain.specs.Retell.{RecordedLine}
use Rattle.session_audit.specs.Checked.{told_in}
use Rattle.session_audit.specs.Fits.{visits_told, is_refused_change}
use Rattle.session_audit.proofs.CheckedBlockFacts.{told_some, told_none, and_no, refused_by}
use Rattle.session_audit.proofs.judge.is_refused_change.Goals as goal

pub returns-then-first_visit-told : goal.returns-then-first_visit-told
returns-then-first_visit-told c =
    let told = c.args.told.now in
    sym (refused_by c.args.func c.args.code (visits_told (told_in told))
    ∙ and_no (is_refused_change c.args.func c.args.code []) _ (told_some told c.first_visit.result c.first_visit.ensures c.if-first_visit-told.true))

pub returns : goal.returns
returns c =
    let told = c.args.told.now in
    c.is_change_fault.ensures
    ∙ ap (λ (vs : List RecordedLine). is_refused_change c.args.func c.args.code vs)
    (sym (told_none told c.first_visit.result c.first_visit.ensures c.if-first_visit-told.false))
