-- The stack that a list of nodes is.
use Rattle.std.proofs.Common.{◌≡◌, ℕ, ◌+◌, List, [], ◌∷◌, length, refl, ap, ◌∙◌, add-one}
use mathlib.Core.Former.{Count}
use Rattle.control_words.specs.declared.nodes.Node.{Node, Line, Sub, Sub', Row_of-Node, end_of-Node, more_of-Node, items-the_row-Node, items_hidden-the_row-Node-0}
use Rattle.control_words.specs.declared.nodes.Nodes.{Nodes}
use Rattle.control_words.specs.Stack.{Stack, sub, count, node_on, row_stack, stack_of}

count-node_on : (node : Node) (rest : Stack) → count (node_on node rest) ≡ count rest + 1
count-node_on (Line rule) rest = refl
count-node_on (Sub' shape all) rest = refl

pub count-stack_of : (nodes : List Node) → count (stack_of nodes) ≡ length nodes
count-stack_of [] = refl
count-stack_of (node ∷ nodes) = count-node_on node (stack_of nodes) ∙ ap (λ (n : ℕ). n + 1) (count-stack_of nodes) ∙ add-one (length nodes)

row_stack-items : (n : _) (row : Row_of-Node n) → row_stack row ≡ stack_of (items-the_row-Node n row)
row_stack-items n end_of-Node = refl
row_stack-items n (more_of-Node node rest) = ap (node_on node) (row_stack-items _ rest)

abbrev row_in : Node → (n : Count) × Row_of-Node n
row_in (Sub' shape all) = (_, all)
row_in node = (_, end_of-Node)

pub node_on-Sub : (inner : Nodes) (rest : Stack) → node_on (Sub inner) rest ≡ sub (stack_of inner.vec.items) rest
node_on-Sub inner rest =
    let row = row_in (Sub inner) in
    ap (λ (s : Stack). sub s rest) (row_stack-items row.0 row.1 ∙ ap stack_of (items_hidden-the_row-Node-0 inner.vec))
