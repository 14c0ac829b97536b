-- Lines and positions of a chain that represent the lines of a stack.
use Rattle.std.specs.Prelude.{◌≡◌, ℕ, ◌+◌, ◌^◌, ◌<◌, ◌≤◌, List, [], ◌∷◌, ◌++◌, length, get_or}
use Rattle.control_words.specs.Stack.{Stack, none, line, sub, count, lines_in, depth}
use Rattle.handler_chain.specs.declared.chain_line.ChainLine.{ChainLine}
use Rattle.handler_chain.specs.FlatLines.{FlatLine, module_of, flat_lines, lines_in_first}

-- from an index on, positions hold the positions between the nodes of a list whose first line has the index `first`
pub record IsBlock (positions : List ℕ) (start first : ℕ) (stack : Stack) : Type 0 where
  pub room : start + count stack < length positions
  pub placed : (n : ℕ) → n ≤ count stack → get_or positions (start + n) 0
      ≡ first + lines_in_first n stack

-- a line of a chain is that of index i
pub record IsChainLine (names : List (List ℕ)) (positions : List ℕ) (i : ℕ) (flat_line : FlatLine)
    (line : ChainLine) : Type 0 where
  pub rule : line.rule ≡ flat_line.rule
  pub module_number : line.module_number ≡ module_of names flat_line.rule
  pub level : line.level ≡ flat_line.level
  pub opens : line.opens ≡ flat_line.opens
  pub left : line.left ≡ count flat_line.rest
  pub past_end : IsBlock positions line.past_end (i + 1) flat_line.rest

-- all lines from index i on are such lines
abbrev pub AreLines : List (List ℕ) → List ℕ → ℕ → List FlatLine → List ChainLine → Type 0
AreLines names positions i [] [] = Unit {0}
AreLines names positions i (s ∷ ss) (e ∷ es) = IsChainLine names positions i s e
    × AreLines names positions (i + 1) ss es
AreLines names positions i [] (e ∷ es) = ⊥
AreLines names positions i (s ∷ ss) [] = ⊥

pub record IsFlat (stack : Stack) (names : List (List ℕ)) (lines : List ChainLine)
    (positions : List ℕ) : Type 0 where
  pub are : AreLines names positions 0 (flat_lines 0 0 stack) lines
  pub few : lines_in stack ≤ 4096
  pub shallow : depth stack ≤ 16
  pub numbered : length names < 2 ^ 32

-- the positions after each node of a list whose first line has the index `first`
abbrev pub positions_after : ℕ → Stack → List ℕ
positions_after first none = []
positions_after first (line rule rest) = (first + 1) ∷ positions_after (first + 1) rest
positions_after first (sub inner rest) = (first + lines_in inner)
    ∷ positions_after (first + lines_in inner) rest

-- the lines of a list were added to lines and positions
pub record AddsList (names : List (List ℕ)) (level opens : ℕ) (stack : Stack)
    (old new : List ChainLine) (before after : List ℕ) : Type 0 where
  pub more : List ChainLine
  pub added : new ≡ old ++ more
  pub positions : List ℕ
  pub placed : after ≡ before ++ positions
  pub are : AreLines names after (length old) (flat_lines level opens stack) more
