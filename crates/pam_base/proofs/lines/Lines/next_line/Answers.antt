use Rattle.std.proofs.Common.{◌<◌, length, sym, ◌∙◌, arith}
use Rattle.std.proofs.lemmas.Bool.{eqb-true}
use Rattle.std.proofs.lemmas.Bool.Decides.{nat_tests}
use Rattle.pam_base.proofs.TextLineFacts.{no_line, no_line_left, whole_line, whole_line_left, part_line, part_line_left}
use Rattle.pam_base.proofs.lines.Lines.next_line.Goals as goal

pub returns-then-is_empty-clause-line : goal.returns-then-is_empty-clause-line
returns-then-is_empty-clause-line c = no_line _ _ c.self.view_is (eqb-true _ _ (sym c.is_empty.ensures ∙ c.if-is_empty.true))

pub returns-then-is_empty-clause-left : goal.returns-then-is_empty-clause-left
returns-then-is_empty-clause-left c = no_line_left c.self.inside.rest.now _ c.self.view_is (eqb-true _ _ (sym c.is_empty.ensures ∙ c.if-is_empty.true))

pub returns-in-Some-clause-line : goal.returns-in-Some-clause-line
returns-in-Some-clause-line c = whole_line _ _ c.self.view_is _ c.in-Some.ensures

pub returns-in-Some-clause-left : goal.returns-in-Some-clause-left
returns-in-Some-clause-left c = whole_line_left _ _ c.self.view_is _ c.in-Some.ensures

pub returns-in-None-clause-line : goal.returns-in-None-clause-line
returns-in-None-clause-line c =
    let some : 0 < length c.self.inside.rest.now = grind (arith, nat_tests) in
    part_line _ _ c.self.view_is c.in-None.ensures some

pub returns-in-None-clause-left : goal.returns-in-None-clause-left
returns-in-None-clause-left c =
    let some : 0 < length c.self.inside.rest.now = grind (arith, nat_tests) in
    part_line_left _ _ c.self.view_is c.in-None.ensures some
