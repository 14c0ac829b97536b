use Rattle.std.proofs.Common.{length}
use Rattle.conf_lex.specs.Lexing.{before_nul, TakesPieces}
use Rattle.conf_lex.specs.Moving.{Moves}
use Rattle.conf_lex.proofs.lexer.Lexer.pieces.Given as goal

abbrev pub invariant-loop-alloc : goal.invariant-loop-alloc
invariant-loop-alloc l = record {
  taken : TakesPieces l.line (before_nul l.fn.self.rest.now) (before_nul l.self.rest.now) l.fn.self.line l.self.line;
  moves : Moves l.fn.self l.self;
}

abbrev pub decreases-loop-alloc : goal.decreases-loop-alloc
decreases-loop-alloc l = length (before_nul l.self.rest.now)
