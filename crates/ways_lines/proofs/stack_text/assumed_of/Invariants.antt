use Rattle.std.proofs.Common.{◌≡◌, ◌++◌, drop}
use Rattle.ways_lines.specs.Told.{assumed_of}
use Rattle.ways_lines.proofs.stack_text.assumed_of.Given as goal

abbrev pub invariant-loop-row : goal.invariant-loop-row
invariant-loop-row l = l.assumed ++ assumed_of l.table l.rule_type (drop l.row-index l.rows) ≡ assumed_of l.table l.rule_type l.rows
