-- The modules that lines of a started service name and that don't exist (this project's own).
use Rattle.std.specs.Prelude.{ℕ, List}
use Rattle.std.specs.List.{flat_map}
use Rattle.report_lines.specs.Line.{missing_text}

-- a line for each module
abbrev pub all_missing_text : ℕ → List (List ℕ) → List ℕ
all_missing_text handle names = flat_map (missing_text handle) names
