-- The stack of the nodes from an index on, by the kind of the node at that index.
use Rattle.std.proofs.Common.{◌≡◌, ℕ, ◌+◌, ◌<◌, ◌≤◌, add-zero, arith, List, ◌∷◌, length, drop, get_or, refl, sym, ◌∙◌, ap}
use Rattle.std.proofs.lemmas.List.{drop_more}
use mathlib.Core.Former.{Count}
use Rattle.control_words.specs.declared.nodes.Node.{Node, Line, Sub, Sub', Row_of-Node, end_of-Node, more_of-Node, items-the_row-Node}
use Rattle.control_words.specs.declared.nodes.Node.{items_hidden-the_row-Node-0}
use Rattle.control_words.specs.declared.nodes.Nodes.{Nodes}
use Rattle.control_words.specs.declared.nodes.Rule.{Rule}
use Rattle.control_words.specs.Stack.{Stack, none, line, sub, count, lines_in, depth, node_on, row_stack, stack_of}

-- ---- a node before a list

pub count_node : (node : Node) (rest : Stack) → count (node_on node rest) ≡ count rest + 1
count_node (Line rule) rest = refl
count_node (Sub' shape all) rest = refl

pub lines_node : (node : Node) (rest : Stack) → lines_in (node_on node rest) ≡ lines_in (node_on node none) + lines_in rest
lines_node (Line rule) rest = omega arith
lines_node (Sub' shape all) rest = omega arith

pub depth_node : (node : Node) (rest : Stack) → depth rest ≤ depth (node_on node rest)
depth_node (Line rule) rest = omega arith
depth_node (Sub' shape all) rest = omega arith

row_stack-items : (n : _) (row : Row_of-Node n) → row_stack row ≡ stack_of (items-the_row-Node n row)
row_stack-items n end_of-Node = refl
row_stack-items n (more_of-Node node rest) = ap (node_on node) (row_stack-items _ rest)

abbrev row_in : Node → (n : Count) × Row_of-Node n
row_in (Sub' shape all) = (_, all)
row_in node = (_, end_of-Node)

pub node_on-Sub : (inner : Nodes) (rest : Stack) → node_on (Sub inner) rest ≡ sub (stack_of inner.vec.items) rest
node_on-Sub inner rest =
    let row = row_in (Sub inner) in
    ap (λ (s : Stack). sub s rest) (row_stack-items row.0 row.1 ∙ ap stack_of (items_hidden-the_row-Node-0 inner.vec))

pub peeled : (nodes : List Node) (i : ℕ) (node : Node) → i < length nodes → node ≡ get_or nodes i node
    → stack_of (drop i nodes) ≡ node_on node (stack_of (drop (i + 1) nodes))
peeled nodes i node within is = ap stack_of (drop_more nodes i node within ∙ ap (λ (n : Node). n ∷ drop (i + 1) nodes) (sym is))

pub peeled_line : (nodes : List Node) (i : ℕ) (node : Node) (rule : Rule) → i < length nodes → node ≡ get_or nodes i node → node ≡ Line rule
    → stack_of (drop i nodes) ≡ line rule (stack_of (drop (i + 1) nodes))
peeled_line nodes i node rule within is which = peeled nodes i node within is ∙ ap (λ (n : Node). node_on n (stack_of (drop (i + 1) nodes))) which

pub peeled_sub : (nodes : List Node) (i : ℕ) (node : Node) (inner : Nodes) → i < length nodes → node ≡ get_or nodes i node → node ≡ Sub inner
    → stack_of (drop i nodes) ≡ sub (stack_of inner.vec.items) (stack_of (drop (i + 1) nodes))
peeled_sub nodes i node inner within is which =
    peeled nodes i node within is ∙ ap (λ (n : Node). node_on n (stack_of (drop (i + 1) nodes))) which ∙ node_on-Sub inner (stack_of (drop (i + 1) nodes))

-- the lines of a substack, as a node
pub lines_sub : (node : Node) (inner : Nodes) → node ≡ Sub inner
    → lines_in (node_on node none) ≡ lines_in (stack_of inner.vec.items)
lines_sub node inner is =
    ap (λ (n : Node). lines_in (node_on n none)) is ∙ ap lines_in (node_on-Sub inner none)
    ∙ add-zero (lines_in (stack_of inner.vec.items))

-- if a node is left, the list isn't at its end
pub some_left : (nodes : List Node) (i : ℕ) (node : Node) (left : ℕ) → i < length nodes → node ≡ get_or nodes i node
    → left ≡ count (stack_of (drop i nodes)) → 1 ≤ left
some_left nodes i node left within is counted =
    let rest : Stack = stack_of (drop (i + 1) nodes) in
    omega (arith, counted, ap count (peeled nodes i node within is), count_node node rest)

-- the lines of a node are among those that are left
pub few_there : (nodes : List Node) (i : ℕ) (node : Node) (at all : ℕ) → i < length nodes → node ≡ get_or nodes i node
    → at + lines_in (stack_of (drop i nodes)) ≡ all → all ≤ 4096 → at + lines_in (node_on node none) ≤ 4096
few_there nodes i node at all within is placed few =
    let rest : Stack = stack_of (drop (i + 1) nodes) in
    omega (arith, placed, few, ap lines_in (peeled nodes i node within is), lines_node node rest)
