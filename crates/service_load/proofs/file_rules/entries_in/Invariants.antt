use Rattle.std.proofs.Common.{◌≡◌, drop}
use Rattle.service_load.specs.Files.{own_rules, is_in_directory}
use Rattle.service_load.specs.Answers.{with_rules_first}
use Rattle.service_load.specs.Checking.{checked_entries}
use Rattle.service_load.proofs.file_rules.entries_in.Given as goal

-- the entries of all rules are those found so far and those of the rules that are left
abbrev pub invariant-loop-rule : goal.invariant-loop-rule
invariant-loop-rule l =
    checked_entries (is_in_directory l.file) (own_rules l.file.service l.rule-items) ≡ with_rules_first l.entries (checked_entries (is_in_directory l.file) (own_rules l.file.service (drop l.rule-index l.rule-items)))
