-- The paths of a stack's lines, by their indices.
use Rattle.std.specs.Prelude.{◌≡◌, ℕ, ◌<◌, ◌≤◌, List, [], length, get_or}
use Rattle.control_words.specs.Stack.{Stack, lines_in}
use Rattle.handler_chain.specs.FlatLines.{rule_at}

abbrev pub path_in : List (List ℕ) → ℕ → List ℕ
path_in paths i = get_or paths i []

-- there is one for each line, and those of the lines from an index on are theirs
pub record HasPaths (stack : Stack) (from : ℕ) (paths : List (List ℕ)) : Type 0 where
  pub whole : length paths ≡ lines_in stack
  pub each : (i : ℕ) → from ≤ i → i < lines_in stack → path_in paths i ≡ (rule_at stack i).path
