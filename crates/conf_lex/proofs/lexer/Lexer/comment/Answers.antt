use Rattle.std.proofs.Common.{arith}
use Rattle.conf_lex.specs.Lexing.{before_nul}
use Rattle.conf_lex.proofs.TakingPieces.{comment_piece}
use Rattle.conf_lex.proofs.NulByteFacts.{line_fits, line_lines, line_one, line_ends}
use Rattle.conf_lex.proofs.lexer.Lexer.comment.Goals as goal

pub skip-requires-clause-within : goal.skip-requires-clause-within
skip-requires-clause-within c = rw c.line_length-length.ensures (line_fits (before_nul c.args.self.now.rest.now))

pub skip-requires-clause-lines : goal.skip-requires-clause-lines
skip-requires-clause-lines c = rw c.line_length-length.ensures (line_lines (before_nul c.args.self.now.rest.now))

pub returns-clause-taken : goal.returns-clause-taken
returns-clause-taken c = comment_piece _ _ _ _ c.line_length-length.result c.requires.hash (rw c.line_length-length.ensures (line_one (before_nul c.args.self.now.rest.now))) (rw c.line_length-length.ensures (line_ends (before_nul c.args.self.now.rest.now))) c.skip.ensures.rest (omega (arith, c.skip.ensures.line))
