use Rattle.std.proofs.Common.{length}
use Rattle.conf_lex.specs.Lexing.{before_nul, TakesUnits}
use Rattle.conf_lex.specs.Moving.{Moves}
use Rattle.conf_lex.proofs.lexer.Lexer.units.Given as goal

abbrev pub invariant-loop-byte : goal.invariant-loop-byte
invariant-loop-byte l = record {
  taken : TakesUnits l.text (before_nul l.fn.self.rest.now) (before_nul l.self.rest.now) l.fn.self.line l.self.line;
  moves : Moves l.fn.self l.self;
}

abbrev pub decreases-loop-byte : goal.decreases-loop-byte
decreases-loop-byte l = length (before_nul l.self.rest.now)
