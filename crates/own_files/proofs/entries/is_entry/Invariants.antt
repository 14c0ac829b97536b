use Rattle.std.proofs.Common.{◌≡◌, ◌≤◌, length}
use Rattle.own_files.specs.Entries.{complete, is_entry}
use Rattle.own_files.proofs.entries.is_entry.Given as goal

abbrev pub invariant-loop-field : goal.invariant-loop-field
invariant-loop-field l = record {
  same : is_entry l.line ≡ complete l.before l.fields;
  within : l.before ≤ 9;
}

abbrev pub decreases-loop-field : goal.decreases-loop-field
decreases-loop-field l = length l.fields
