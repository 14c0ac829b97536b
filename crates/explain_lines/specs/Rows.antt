-- What is known of a line of a stack (this project's own).
use Rattle.std.specs.Prelude.{ℕ}
use Rattle.control_words.specs.declared.nodes.Rule.{Rule}
use Rattle.explain_lines.specs.declared.row.Fate.{Fate}
use Rattle.explain_lines.specs.declared.row.Row.{Row}

-- the row of a line, by its rule number
abbrev pub row_of : ℕ → Rule → Fate → Row
row_of at rule fate = record { place = at; path = rule.path; fate = fate }
