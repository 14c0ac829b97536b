-- The paths of lines, as they are shared and taken.
use Rattle.std.proofs.Common.{◌≡◌, ℕ, ◌<◌, ◌≤◌, List, length, arith}
use Rattle.control_words.specs.Stack.{Stack}
use Rattle.handler_chain.specs.FlatLines.{rule_at}
use Rattle.dispatch_core.specs.Paths.{HasPaths, path_in}

-- the first n paths are shared
pub record Shared (stack : Stack) (paths : List (List ℕ)) (n : ℕ) : Type 0 where
  pub count : length paths ≡ n
  pub each : (i : ℕ) → i < n → path_in paths i ≡ (rule_at stack i).path

-- at a later index, fewer paths have to be there
pub paths_ahead : (stack : Stack) (paths : List (List ℕ)) (i next : ℕ) → i ≤ next → HasPaths stack i paths → HasPaths stack next paths
paths_ahead stack paths i next ahead has = record { whole = has.whole; each = λ j from within. has.each j (omega (arith, from, ahead)) within }
