use Rattle.std.proofs.Common.{◌≡◌, ◌++◌, drop}
use Rattle.service_load.specs.Checking.{entries_of_type}
use Rattle.service_load.proofs.kept.entries_of_type.Given as goal

-- the entries that serve the type are those found so far and those among what is left
abbrev pub invariant-loop-entry : goal.invariant-loop-entry
invariant-loop-entry l = entries_of_type l.rule_type l.entries ≡ l.copy ++ entries_of_type l.rule_type (drop l.entry-index l.entries)
