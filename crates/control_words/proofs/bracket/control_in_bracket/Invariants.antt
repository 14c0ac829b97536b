use Rattle.std.proofs.Common.{◌≡◌, true, length}
use Rattle.control_words.specs.Entries.{entries_in}
use Rattle.control_words.proofs.FirstEntryFacts.{starts}
use Rattle.control_words.proofs.ControlTableFacts.{Filled}
use Rattle.control_words.proofs.bracket.control_in_bracket.Given as goal

abbrev pub invariant-loop-rest : goal.invariant-loop-rest
invariant-loop-rest l = record {
  filled : Filled (entries_in l.text) (entries_in l.rest) l.table;
  starts : starts l.rest ≡ true;
}

abbrev pub decreases-loop-rest : goal.decreases-loop-rest
decreases-loop-rest l = length l.rest
