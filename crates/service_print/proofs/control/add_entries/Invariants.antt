use Rattle.std.proofs.Common.{◌≡◌, ◌++◌, drop}
use Rattle.service_print.specs.Tokens.{spaced}
use Rattle.service_print.specs.Controls.{entries_among}
use Rattle.service_print.proofs.ControlEntryFacts.{spaced_on}
use Rattle.service_print.proofs.control.add_entries.Given as goal

abbrev pub invariant-loop-code : goal.invariant-loop-code
invariant-loop-code l = l.line.items ++ spaced_on l.is_first (entries_among l.control (drop l.code-index l.codes)) ≡ l.fn.line.items ++ spaced (entries_among l.control l.codes)
