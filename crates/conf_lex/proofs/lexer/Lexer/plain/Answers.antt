use Rattle.std.proofs.Common.{arith, ◌≤◌, length, ◌∙◌}
use Rattle.conf_lex.specs.Lexing.{before_nul}
use Rattle.conf_lex.proofs.TakingPieces.{run_fits, plain_piece}
use Rattle.conf_lex.proofs.NulByteFacts.{before_short, before_take, take_length, run_lines}
use Rattle.conf_lex.proofs.lexer.Lexer.plain.Goals as goal

pub slice_bounds-run-end : goal.slice_bounds-run-end
slice_bounds-run-end c = take_length _ _ (omega (arith, c.run_length-length.ensures, run_fits (before_nul c.args.self.now.rest.now), before_short c.args.self.now.rest.now))

pub skip-requires-clause-within : goal.skip-requires-clause-within
skip-requires-clause-within c = rw c.run_length-length.ensures (run_fits (before_nul c.args.self.now.rest.now))

pub skip-requires-clause-lines : goal.skip-requires-clause-lines
skip-requires-clause-lines c = rw c.run_length-length.ensures (run_lines (before_nul c.args.self.now.rest.now))

pub returns-clause-taken : goal.returns-clause-taken
returns-clause-taken c =
    let within : c.run_length-length.result ≤ length (before_nul c.args.self.now.rest.now) = omega (arith, c.run_length-length.ensures, run_fits (before_nul c.args.self.now.rest.now)) in
    plain_piece _ _ _ _ _ c.run_length-length.result c.requires.on c.requires.no_bracket c.run_length-length.ensures (c.in_ok-from_bytes.ensures ∙ before_take _ _ within) c.skip.ensures.rest (omega (arith, c.skip.ensures.line))
