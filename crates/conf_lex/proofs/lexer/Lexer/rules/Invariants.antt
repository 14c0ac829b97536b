use Rattle.std.proofs.Common.{◌≡◌, length}
use Rattle.conf_lex.specs.Lexing.{before_nul, answer_at, with_rules_first}
use Rattle.conf_lex.specs.Moving.{Moves}
use Rattle.conf_lex.proofs.lexer.Lexer.rules.Given as goal

abbrev pub invariant-loop-alloc : goal.invariant-loop-alloc
invariant-loop-alloc l = record {
  answer : answer_at l.fn.self.line (before_nul l.fn.self.rest.now) ≡ with_rules_first l.rules (answer_at l.self.line (before_nul l.self.rest.now));
  moves : Moves l.fn.self l.self;
}

abbrev pub decreases-loop-alloc : goal.decreases-loop-alloc
decreases-loop-alloc l = length (before_nul l.self.rest.now)
