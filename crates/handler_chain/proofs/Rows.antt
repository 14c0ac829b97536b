-- A test case: a line, a substack with an empty one inside, an empty one, a substack of one line, a
-- line.
use Rattle.std.proofs.Common.{◌≡◌, Some, None, [], ◌∷◌, refl, map}
use Rattle.control_words.specs.declared.nodes.Rule.{Rule}
use Rattle.control_words.specs.Stack.{Stack, none, line, sub, depth}
use Rattle.handler_chain.specs.FlatLines.{level_at, opens_at, end_at, target_at}

module _ (r : Rule) where
  abbrev row : Stack
  row = line r (sub (line r (sub none (line r none))) (sub none (sub (line r none) (line r none))))

  levels : map (level_at row) (0 ∷ 1 ∷ 2 ∷ 3 ∷ 4 ∷ []) ≡ 0 ∷ 1 ∷ 1 ∷ 1 ∷ 0 ∷ []
  levels = refl

  opened : map (opens_at row) (0 ∷ 1 ∷ 2 ∷ 3 ∷ 4 ∷ []) ≡ 0 ∷ 1 ∷ 0 ∷ 1 ∷ 0 ∷ []
  opened = refl

  ends : map (end_at row) (0 ∷ 1 ∷ 2 ∷ 3 ∷ 4 ∷ []) ≡ 5 ∷ 3 ∷ 3 ∷ 4 ∷ 5 ∷ []
  ends = refl

  first_targets : map (target_at row 0) (1 ∷ 2 ∷ 3 ∷ 4 ∷ 5 ∷ []) ≡ Some 3 ∷ Some 3 ∷ Some 4 ∷ Some 5 ∷ None ∷ []
  first_targets = refl

  second_targets : map (target_at row 1) (1 ∷ 2 ∷ 3 ∷ []) ≡ Some 2 ∷ Some 3 ∷ None ∷ []
  second_targets = refl

  deep : depth row ≡ 2
  deep = refl
