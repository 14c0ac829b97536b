-- What contracts see of a chain.
use Rattle.std.specs.Prelude.{ℕ, ◌+◌, ◌-◌, ◌^◌, min, List}
use Rattle.control_words.specs.Stack.{Stack}

-- the nested list and the names that it was made from, and how often the nesting of its lines was
-- looked up
pub record ChainView : Type 0 where
  pub nodes : Stack
  pub names : List (List ℕ)
  pub looks : ℕ

-- a chain that was just made
abbrev pub fresh_chain : Stack → List (List ℕ) → ChainView
fresh_chain nodes names = record { nodes = nodes; names = names; looks = 0 }

-- a chain after one more lookup; the count saturates
abbrev pub looked : ChainView → ChainView
looked chain = record chain { looks = min (chain.looks + 1) (2 ^ 64 - 1) }
