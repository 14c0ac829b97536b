use Rattle.conf_lex.proofs.TakingPieces.{push_piece}
use Rattle.conf_lex.proofs.NulByteFacts.{moves_on}
use Rattle.conf_lex.proofs.lexer.Lexer.pieces.Goals as goal

pub loop-alloc-preserved : goal.loop-alloc-preserved
loop-alloc-preserved c = record {
  taken = push_piece _ _ c.in_ok-found.found _ _ _ _ _ _ c.loop-alloc.invariant.taken c.in_ok-found.ensures.taken c.in_ok-add.ensures.tokens c.in_ok-add.ensures.opened;
  moves = moves_on _ _ _ c.loop-alloc.invariant.moves c.in_ok-found.ensures.moves;
}
