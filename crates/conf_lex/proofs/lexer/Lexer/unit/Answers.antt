use Rattle.std.proofs.Common.{◌≡◌, false, get_or, arith, sym, ◌∙◌}
use Rattle.conf_lex.specs.Lexing.{before_nul, is_bracket_end}
use Rattle.conf_lex.proofs.TextUnitFacts.{joined_unit, alone_unit}
use Rattle.conf_lex.proofs.NulByteFacts.{unit_on, front_before}
use Rattle.conf_lex.proofs.lexer.Lexer.unit.Goals as goal

pub returns-then-join-clause-taken : goal.returns-then-join-clause-taken
returns-then-join-clause-taken c = joined_unit _ _ _ _ _ c.join.ensures.taken c.if-join.true

pub returns-clause-taken : goal.returns-clause-taken
returns-clause-taken c =
    let no_end : is_bracket_end (before_nul c.join.new.self.rest.now) ≡ false = sym c.is_bracket_end.ensures ∙ c.if-is_bracket_end.false in
    let front : get_or (before_nul c.join.new.self.rest.now) 0 0 ≡ get_or c.join.new.self.rest.now 0 0 = front_before c.join.new.self.rest.now (unit_on (before_nul c.join.new.self.rest.now) no_end) in
    rw (sym front) (alone_unit _ _ _ _ _ _ _ c.join.ensures.taken c.if-join.false no_end (sym c.is_escape.ensures ∙ c.if-is_escape.false) c.skip-2.ensures.rest (omega (arith, c.skip-2.ensures.line)))
