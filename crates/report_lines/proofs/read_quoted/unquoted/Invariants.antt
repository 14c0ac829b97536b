use Rattle.std.proofs.Common.{◌≡◌, ◌++◌, drop}
use Rattle.report_lines.specs.Words.{unquoted, unquoted_from}
use Rattle.report_lines.specs.Unquote.{state_of}
use Rattle.report_lines.proofs.read_quoted.unquoted.Given as goal

abbrev pub invariant-loop-byte : goal.invariant-loop-byte
invariant-loop-byte l = l.bytes.items ++ unquoted_from (state_of l.reading) (drop l.byte-index l.text) ≡ unquoted l.text
