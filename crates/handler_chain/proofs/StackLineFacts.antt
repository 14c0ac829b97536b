-- The lines of a stack, one by one.
use Rattle.std.proofs.Common.{◌≡◌, ℕ, zero, suc, ◌+◌, ◌<◌, ◌≤◌, max, List, [], ◌∷◌, ◌++◌, length, get_or, drop, map, refl, ◌∙◌, ap, length-append, arith}
use Rattle.control_words.specs.Stack.{Stack, none, line, sub, lines_in, depth}
use Rattle.handler_chain.specs.FlatLines.{FlatLine, flat_lines, pending, at_line, of_first}

pub flat_lines-count : (t : Stack) (level opens : ℕ) → length (flat_lines level opens t) ≡ lines_in t
flat_lines-count none level opens = refl
flat_lines-count (line rule rest) level opens = omega (arith, flat_lines-count rest level 0)
flat_lines-count (sub inner rest) level opens =
    omega (arith, length-append (flat_lines (level + 1) (opens + 1) inner) (flat_lines level (pending (lines_in inner) opens) rest), flat_lines-count inner (level + 1) (opens + 1), flat_lines-count rest level (pending (lines_in inner) opens))

-- what holds for the line with an index holds for the line at that index
pub at_line-stands : {A : Type 0} (other : A) (of : FlatLine → A) (stack : Stack) (i : ℕ) (s : FlatLine) (rest : List FlatLine)
    → drop i (flat_lines 0 0 stack) ≡ s ∷ rest → at_line other of stack i ≡ of s
at_line-stands other of stack i s rest stands = ap (of_first other of) stands

-- levels are bounded, and no line opens more substacks than are around it
abbrev AreWithin : ℕ → List FlatLine → Type 0
AreWithin most [] = Unit {0}
AreWithin most (s ∷ ss) = ((s.level ≤ most) × (s.opens ≤ s.level)) × AreWithin most ss

within_more : (most more : ℕ) (ss : List FlatLine) → most ≤ more → AreWithin most ss → AreWithin more ss
within_more most more [] le within = tt
within_more most more (s ∷ ss) le within = ((omega (arith, within.0.0), within.0.1), within_more most more ss le within.1)

within_joined : (most : ℕ) (ss ts : List FlatLine) → AreWithin most ss → AreWithin most ts → AreWithin most (ss ++ ts)
within_joined most [] ts p q = q
within_joined most (s ∷ ss) ts p q = (p.0, within_joined most ss ts p.1 q)

pending-le : (lines opens level : ℕ) → opens ≤ level → pending lines opens ≤ level
pending-le zero opens level le = le
pending-le (suc lines) opens level le = omega arith

lines_within : (t : Stack) (level opens : ℕ) → opens ≤ level → AreWithin (level + depth t) (flat_lines level opens t)
lines_within none level opens le = tt
lines_within (line rule rest) level opens le = ((omega arith, le), lines_within rest level 0 (omega arith))
lines_within (sub inner rest) level opens le =
    within_joined (level + max (depth inner + 1) (depth rest)) (flat_lines (level + 1) (opens + 1) inner) (flat_lines level (pending (lines_in inner) opens) rest)
    (within_more (level + 1 + depth inner) (level + max (depth inner + 1) (depth rest)) (flat_lines (level + 1) (opens + 1) inner) (omega arith) (lines_within inner (level + 1) (opens + 1) (omega arith)))
    (within_more (level + depth rest) (level + max (depth inner + 1) (depth rest)) (flat_lines level (pending (lines_in inner) opens) rest) (omega arith) (lines_within rest level (pending (lines_in inner) opens) (pending-le (lines_in inner) opens level le)))

within_at : (most : ℕ) (ss rest : List FlatLine) (s : FlatLine) (i : ℕ) → AreWithin most ss → drop i ss ≡ s ∷ rest → (s.level ≤ most) × (s.opens ≤ s.level)
within_at most [] rest s zero within is = cc
within_at most [] rest s (suc i) within is = cc
within_at most (t ∷ ts) rest s zero within is = let same : t ≡ s = cc in rw (← same) within.0
within_at most (t ∷ ts) rest s (suc i) within is = within_at most ts rest s i within.1 is

pub line_within : (stack : Stack) (i : ℕ) (s : FlatLine) (rest : List FlatLine) → drop i (flat_lines 0 0 stack) ≡ s ∷ rest
    → (s.level ≤ depth stack) × (s.opens ≤ s.level)
line_within stack i s rest is =
    let both = within_at (0 + depth stack) (flat_lines 0 0 stack) rest s i (lines_within stack 0 0 (omega arith)) is in
    (omega (arith, both.0), both.1)
