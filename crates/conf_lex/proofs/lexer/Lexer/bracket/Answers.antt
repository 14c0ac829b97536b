use Rattle.std.proofs.Common.{arith, sym, ◌∙◌}
use Rattle.conf_lex.proofs.TakingPieces.{open_piece, bracket_piece}
use Rattle.conf_lex.proofs.lexer.Lexer.bracket.Goals as goal

pub returns-then-at_line_end-clause-taken : goal.returns-then-at_line_end-clause-taken
returns-then-at_line_end-clause-taken c = open_piece _ _ _ _ _ _ _ c.requires.bracket c.skip.ensures.rest (omega (arith, c.skip.ensures.line)) c.in_ok-text.ensures.taken (sym c.at_line_end.ensures ∙ c.if-at_line_end.true)

pub returns-clause-taken : goal.returns-clause-taken
returns-clause-taken c = bracket_piece _ _ _ _ _ _ _ _ _ c.requires.bracket c.skip.ensures.rest (omega (arith, c.skip.ensures.line)) c.in_ok-text.ensures.taken c.in_ok-text.ensures.ends (sym c.at_line_end.ensures ∙ c.if-at_line_end.false) c.skip-2.ensures.rest (omega (arith, c.skip-2.ensures.line))
