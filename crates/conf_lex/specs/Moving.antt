-- What every step of the lexer keeps (this project's own).
use Rattle.std.specs.Prelude.{◌≡◌, ◌+◌, length}
use Rattle.conf_lex.specs.declared.lexer.Lexer.{Lexer}
use Rattle.conf_lex.specs.Lexing.{before_nul, nul_line}

-- part of the text was read, without a NUL byte: the first one is in the same line, and as much
-- follows it
pub record Moves (old new : Lexer) : Type 0 where
  pub nul : nul_line new.line new.rest.now ≡ nul_line old.line old.rest.now
  pub nul_kept : length new.rest.now + length (before_nul old.rest.now)
      ≡ length old.rest.now + length (before_nul new.rest.now)
