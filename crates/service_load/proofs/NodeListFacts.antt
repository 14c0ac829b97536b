-- The stack that a list of nodes is.
use Rattle.std.proofs.Common.{◌≡◌, List, [], ◌∷◌, ◌++◌, refl, sym, ap, ◌∙◌}
use mathlib.Core.Former.{Count}
use Rattle.control_words.specs.declared.nodes.Node.{Node, Line, Sub, Sub', Row_of-Node, end_of-Node, more_of-Node, items-the_row-Node, items_hidden-the_row-Node-0}
use Rattle.control_words.specs.declared.nodes.Nodes.{Nodes}
use Rattle.control_words.specs.Stack.{Stack, sub, joined, node_on, row_stack, stack_of}

row_stack-items : (n : _) (row : Row_of-Node n) → row_stack row ≡ stack_of (items-the_row-Node n row)
row_stack-items n end_of-Node = refl
row_stack-items n (more_of-Node node rest) = ap (node_on node) (row_stack-items _ rest)

abbrev row_in : Node → (n : Count) × Row_of-Node n
row_in (Sub' shape all) = (_, all)
row_in node = (_, end_of-Node)

-- a substack of some nodes
pub node_on-Sub : (inner : Nodes) (rest : Stack) → node_on (Sub inner) rest ≡ sub (stack_of inner.vec.items) rest
node_on-Sub inner rest =
    let row = row_in (Sub inner) in
    ap (λ (s : Stack). sub s rest) (row_stack-items row.0 row.1 ∙ ap stack_of (items_hidden-the_row-Node-0 inner.vec))

-- some nodes after others
joined-node_on : (node : Node) (rest more : Stack) → joined (node_on node rest) more ≡ node_on node (joined rest more)
joined-node_on (Line rule) rest more = refl
joined-node_on (Sub' shape all) rest more = refl

pub stack_of-append : (xs ys : List Node) → stack_of (xs ++ ys) ≡ joined (stack_of xs) (stack_of ys)
stack_of-append [] ys = refl
stack_of-append (x ∷ xs) ys = ap (node_on x) (stack_of-append xs ys) ∙ sym (joined-node_on x (stack_of xs) (stack_of ys))
