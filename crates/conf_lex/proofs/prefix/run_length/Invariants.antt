use Rattle.std.proofs.Common.{◌≡◌, ◌+◌, length}
use Rattle.conf_lex.specs.Reading.{run_of}
use Rattle.conf_lex.specs.Lexing.{before_nul}
use Rattle.conf_lex.proofs.prefix.run_length.Given as goal

abbrev pub invariant-loop-rest : goal.invariant-loop-rest
invariant-loop-rest l = length (run_of (before_nul l.fn.text)) + length l.rest
    ≡ length (run_of (before_nul l.rest)) + length l.fn.text

abbrev pub decreases-loop-rest : goal.decreases-loop-rest
decreases-loop-rest l = length l.rest
