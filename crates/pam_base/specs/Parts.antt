-- The parts of a text (this project's own; slice::split gives the same).
use Rattle.std.specs.Prelude.{ℕ, List, ◌==◌}
use Rattle.std.specs.List.{slice_split}

-- the parts of a text between its separators; a text without one is one part
unfoldable pub parts_of : ℕ → List ℕ → List (List ℕ)
parts_of separator text = slice_split (λ b. b == separator) text
