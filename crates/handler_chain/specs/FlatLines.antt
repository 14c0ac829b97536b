-- The lines of a stack in written order, each with its position (pam.conf(5): substacks and jumps).
use Rattle.std.specs.Prelude.{ℕ, zero, suc, ◌+◌, false, if◌then◌else◌, nat_le, Option, Some, None, List, [], ◌∷◌, ◌++◌, max, drop}
use Rattle.std.specs.Str.{bytes_eq}
use Rattle.control_words.specs.declared.nodes.Rule.{Rule}
use Rattle.control_words.specs.Module.{name_of_module}
use Rattle.control_words.specs.Stack.{Stack, none, line, sub, count, lines_in}

-- a line: how many substacks are around it, of how many it is the first line, and what follows it
-- in its list
pub record FlatLine : Type 0 where
  pub rule : Rule
  pub level : ℕ
  pub opens : ℕ
  pub rest : Stack

abbrev pub flat_line : Rule → ℕ → ℕ → Stack → FlatLine
flat_line rule level opens rest = record { rule = rule; level = level; opens = opens; rest = rest }

-- how many substacks are still to be opened after one of n lines: an empty one has no first line
abbrev pub pending : ℕ → ℕ → ℕ
pending zero opens = opens
pending (suc lines) opens = 0

-- the lines of a list at a level, before whose first line n substacks were opened since the last line
abbrev pub flat_lines : ℕ → ℕ → Stack → List FlatLine
flat_lines level opens none = []
flat_lines level opens (line rule rest) = flat_line rule level opens rest ∷ flat_lines level 0 rest
flat_lines level opens (sub inner rest) = flat_lines (level + 1) (opens + 1) inner
    ++ flat_lines level (pending (lines_in inner) opens) rest

-- how many lines the first n nodes of a list have
abbrev pub lines_in_first : ℕ → Stack → ℕ
lines_in_first zero stack = 0
lines_in_first (suc n) none = 0
lines_in_first (suc n) (line rule rest) = lines_in_first n rest + 1
lines_in_first (suc n) (sub inner rest) = lines_in inner + lines_in_first n rest

-- this holds for the first of several lines, if there is one
abbrev pub of_first : {A : Type 0} → A → (FlatLine → A) → List FlatLine → A
of_first other of [] = other
of_first other of (l ∷ ls) = of l

-- this holds for the line at an index, if there is one
abbrev pub at_line : {A : Type 0} → A → (FlatLine → A) → Stack → ℕ → A
at_line other of stack i = of_first other of (drop i (flat_lines 0 0 stack))

-- in place of the rule of a line that doesn't exist
abbrev pub no_rule : Rule
no_rule = record { silent = false; control = []; path = []; args = [] }

abbrev pub rule_at : Stack → ℕ → Rule
rule_at = at_line no_rule (λ l. l.rule)

abbrev pub level_at : Stack → ℕ → ℕ
level_at = at_line 0 (λ l. l.level)

abbrev pub opens_at : Stack → ℕ → ℕ
opens_at = at_line 0 (λ l. l.opens)

-- the index of the first of several names that is this one, if the first of them has the index i
abbrev pub number_of_name : List ℕ → ℕ → List (List ℕ) → Option ℕ
number_of_name wanted i [] = None
number_of_name wanted i (name ∷ names) = if bytes_eq name wanted then Some i
    else number_of_name wanted (i + 1) names

abbrev pub module_of : List (List ℕ) → Rule → Option ℕ
module_of names rule = number_of_name (name_of_module rule.path) 0 names

abbrev pub module_at : Stack → List (List ℕ) → ℕ → Option ℕ
module_at stack names i = at_line None (λ l. module_of names l.rule) stack i

-- the index of the position after the last node of the line's list
abbrev pub end_at : Stack → ℕ → ℕ
end_at stack i = at_line 0 (λ l. i + 1 + lines_in l.rest) stack i

-- the index of the position after the n nodes that follow the line in its list, if there are n
abbrev pub target_at : Stack → ℕ → ℕ → Option ℕ
target_at stack i n = at_line None (λ l. if nat_le n (count l.rest)
    then Some (i + 1 + lines_in_first n l.rest) else None) stack i
