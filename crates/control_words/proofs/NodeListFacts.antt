-- The stack that a list of nodes is.
use Rattle.std.proofs.Common.{◌≡◌, ℕ, ◌+◌, List, [], ◌∷◌, ◌++◌, length, refl, sym, ap, ◌∙◌, add-one}
use Rattle.control_words.specs.declared.nodes.Node.{Node, Line, Sub'}
use Rattle.control_words.specs.Stack.{Stack, none, joined, count, node_on, stack_of}

count-node_on : (node : Node) (rest : Stack) → count (node_on node rest) ≡ count rest + 1
count-node_on (Line rule) rest = refl
count-node_on (Sub' shape all) rest = refl

pub count-stack_of : (nodes : List Node) → count (stack_of nodes) ≡ length nodes
count-stack_of [] = refl
count-stack_of (node ∷ nodes) = count-node_on node (stack_of nodes) ∙ ap (λ (n : ℕ). n + 1) (count-stack_of nodes) ∙ add-one (length nodes)

joined-node_on : (node : Node) (rest more : Stack) → joined (node_on node rest) more ≡ node_on node (joined rest more)
joined-node_on (Line rule) rest more = refl
joined-node_on (Sub' shape all) rest more = refl

pub stack_of-append : (nodes : List Node) (node : Node) → stack_of (nodes ++ node ∷ []) ≡ joined (stack_of nodes) (node_on node none)
stack_of-append [] node = refl
stack_of-append (first ∷ nodes) node = ap (node_on first) (stack_of-append nodes node) ∙ sym (joined-node_on first (stack_of nodes) (node_on node none))
