use Rattle.conf_lex.proofs.TextUnitFacts.{push_unit}
use Rattle.conf_lex.proofs.NulByteFacts.{moves_on}
use Rattle.conf_lex.proofs.lexer.Lexer.units.Goals as goal

pub loop-byte-preserved : goal.loop-byte-preserved
loop-byte-preserved c = record {
  taken = rw c.in_ok-push.ensures.ok (push_unit _ _ _ _ _ _ _ _ c.loop-byte.invariant.taken c.in-Some.ensures.taken);
  moves = moves_on _ _ _ c.loop-byte.invariant.moves c.in-Some.ensures.moves;
}
