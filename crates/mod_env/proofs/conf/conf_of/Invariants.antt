use Rattle.std.proofs.Common.{◌≡◌, length}
use Rattle.mod_env.specs.Conf.{conf_of, entries_of}
use Rattle.mod_env.proofs.FoundSoFarFacts.{after_entries}
use Rattle.mod_env.proofs.conf.conf_of.Given as goal

abbrev pub invariant-loop-line : goal.invariant-loop-line
invariant-loop-line l = after_entries l.entries (entries_of l.lines) ≡ conf_of l.text

abbrev pub decreases-loop-line : goal.decreases-loop-line
decreases-loop-line l = length l.lines
