use Rattle.conf_lex.proofs.TakingPieces.{join_piece}
use Rattle.conf_lex.proofs.lexer.Lexer.piece.Goals as goal

pub returns-then-join-clause-taken : goal.returns-then-join-clause-taken
returns-then-join-clause-taken c = join_piece _ _ _ _ _ c.join.ensures.taken c.if-join.true
