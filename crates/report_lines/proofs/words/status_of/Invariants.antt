use Rattle.std.proofs.Common.{◌≡◌, take}
use Rattle.report_lines.specs.Words.{guessed_status}
use Rattle.report_lines.proofs.words.status_of.Given as goal

abbrev pub invariant-loop-digit : goal.invariant-loop-digit
invariant-loop-digit l = l.value ≡ guessed_status (take l.digit-index l.word)
