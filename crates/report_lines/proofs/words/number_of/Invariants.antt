use Rattle.std.proofs.Common.{◌≡◌, take}
use Rattle.report_lines.specs.Words.{guessed_number}
use Rattle.report_lines.proofs.words.number_of.Given as goal

abbrev pub invariant-loop-digit : goal.invariant-loop-digit
invariant-loop-digit l = l.value ≡ guessed_number (take l.digit-index l.word)
