use Rattle.std.proofs.Common.{◌≡◌, ◌+◌, ◌≤◌, length, drop}
use Rattle.conf_lex.specs.Lexing.{nul_line}
use Rattle.conf_lex.proofs.lexer.Lexer.nul_line.Given as goal

abbrev pub invariant-loop-byte : goal.invariant-loop-byte
invariant-loop-byte l = record {
  nul : nul_line l.line (drop l.byte-index l.self.rest.now) ≡ nul_line l.fn.self.line l.fn.self.rest.now;
  fits : l.line + length (drop l.byte-index l.self.rest.now) ≤ l.fn.self.line + length l.fn.self.rest.now;
}
