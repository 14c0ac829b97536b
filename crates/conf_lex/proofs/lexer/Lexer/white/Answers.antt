use Rattle.std.proofs.Common.{arith}
use Rattle.conf_lex.proofs.TakingPieces.{white_piece}
use Rattle.conf_lex.proofs.lexer.Lexer.white.Goals as goal

pub returns-clause-taken : goal.returns-clause-taken
returns-clause-taken c = white_piece _ _ _ _ c.requires.white c.skip.ensures.rest (omega (arith, c.skip.ensures.line))
