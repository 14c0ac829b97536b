-- A stack in written order (this project's own): its lines, and where substacks begin and end.
use Rattle.std.specs.Prelude.{List, [], ◌∷◌, ◌++◌}
use Rattle.control_words.specs.Stack.{Stack, none, line, sub}
use Rattle.ways_lines.specs.declared.row.Row.{Row}
use Rattle.ways_lines.specs.declared.row.Row.TheVariants as rows

abbrev pub rows_of : Stack → List Row
rows_of none = []
rows_of (line rule rest) = rows.Rule rule ∷ rows_of rest
rows_of (sub inner rest) = rows.Begin ∷ (rows_of inner ++ rows.End ∷ rows_of rest)
