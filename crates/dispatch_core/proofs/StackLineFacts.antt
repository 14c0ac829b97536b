-- The lines of a stack, one by one.
use Rattle.std.proofs.Common.{◌≡◌, ℕ, zero, suc, ◌+◌, ◌<◌, List, [], ◌∷◌, length, get_or, drop, refl, ◌∙◌, ap, length-append, add-one, arith}
use Rattle.std.proofs.lemmas.List.{drop_more}
use Rattle.control_words.specs.Stack.{Stack, none, line, sub, count, lines_in}
use Rattle.handler_chain.specs.FlatLines.{FlatLine, flat_line, flat_lines, pending, lines_in_first, at_line, no_rule, of_first}

pub flat_lines-count : (t : Stack) (level opens : ℕ) → length (flat_lines level opens t) ≡ lines_in t
flat_lines-count none level opens = refl
flat_lines-count (line rule rest) level opens = omega (arith, flat_lines-count rest level 0)
flat_lines-count (sub inner rest) level opens =
    let still : ℕ = pending (lines_in inner) opens in
    omega (arith, length-append (flat_lines (level + 1) (opens + 1) inner) (flat_lines level still rest), flat_lines-count inner (level + 1) (opens + 1), flat_lines-count rest level still)

-- what is at an index, and what follows it
pub record IsRuleAt (stack : Stack) (i : ℕ) : Type 0 where
  pub line : FlatLine
  pub stands : drop i (flat_lines 0 0 stack) ≡ line ∷ drop (i + 1) (flat_lines 0 0 stack)

read_same : (xs : List FlatLine) (i : ℕ) (d e : FlatLine) → i < length xs → get_or xs i d ≡ get_or xs i e
read_same [] i d e within = absurd (omega (arith, within))
read_same (x ∷ xs) zero d e within = refl
read_same (x ∷ xs) (suc i) d e within = read_same xs i d e (omega arith)

pub stands_at : (stack : Stack) (i : ℕ) → i < lines_in stack → IsRuleAt stack i
stands_at stack i within =
    let lines : List FlatLine = flat_lines 0 0 stack in
    let there : i < length lines = omega (arith, within, flat_lines-count stack 0 0) in
    let other : FlatLine = flat_line no_rule 0 0 none in
    let x : FlatLine = get_or lines i other in
    record { line = x; stands = drop_more lines i x there ∙ ap (λ (y : FlatLine). y ∷ drop (i + 1) lines) (read_same lines i x other there) }

-- what holds for the line of an index holds for the line at that index
pub at_line-stands : {A : Type 0} (other : A) (of : FlatLine → A) (stack : Stack) (i : ℕ) (l : FlatLine) (rest : List FlatLine)
    → drop i (flat_lines 0 0 stack) ≡ l ∷ rest → at_line other of stack i ≡ of l
at_line-stands other of stack i l rest stands = ap (of_first other of) stands

-- all lines of a list are those of all its nodes
pub all_nodes : (t : Stack) → lines_in_first (count t) t ≡ lines_in t
all_nodes none = refl
all_nodes (line rule rest) = ap (λ n. lines_in_first n (line rule rest)) (add-one (count rest)) ∙ ap (λ n. n + 1) (all_nodes rest)
all_nodes (sub inner rest) = ap (λ n. lines_in_first n (sub inner rest)) (add-one (count rest)) ∙ ap (λ n. lines_in inner + n) (all_nodes rest)
