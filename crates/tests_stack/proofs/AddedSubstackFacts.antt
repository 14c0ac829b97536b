-- A stack followed by a substack.
use Rattle.std.proofs.Common.{◌≡◌, ℕ, ◌+◌, max, refl, ap, ◌∙◌, arith}
use mathlib.Core.Former.{Count}
use Rattle.control_words.specs.declared.nodes.Node.{Node, Sub, Sub', Row_of-Node, end_of-Node, more_of-Node, items-the_row-Node, items_hidden-the_row-Node-0}
use Rattle.control_words.specs.declared.nodes.Nodes.{Nodes}
use Rattle.control_words.specs.Stack.{Stack, none, line, sub, joined, lines_in, depth, node_on, row_stack, stack_of}

row_stack-items : (n : _) (row : Row_of-Node n) → row_stack row ≡ stack_of (items-the_row-Node n row)
row_stack-items n end_of-Node = refl
row_stack-items n (more_of-Node node rest) = ap (node_on node) (row_stack-items _ rest)

abbrev row_in : Node → (n : Count) × Row_of-Node n
row_in (Sub' shape all) = (_, all)
row_in node = (_, end_of-Node)

node_on-Sub : (inner : Nodes) (rest : Stack) → node_on (Sub inner) rest ≡ sub (stack_of inner.vec.items) rest
node_on-Sub inner rest =
    let row = row_in (Sub inner) in
    ap (λ (s : Stack). sub s rest) (row_stack-items row.0 row.1 ∙ ap stack_of (items_hidden-the_row-Node-0 inner.vec))

lines_joined : (a b : Stack) → lines_in (joined a b) ≡ lines_in a + lines_in b
lines_joined none b = omega arith
lines_joined (line rule rest) b = omega (arith, lines_joined rest b)
lines_joined (sub inner rest) b = omega (arith, lines_joined rest b)

depth_joined : (a b : Stack) → depth (joined a b) ≡ max (depth a) (depth b)
depth_joined none b = omega arith
depth_joined (line rule rest) b = depth_joined rest b
depth_joined (sub inner rest) b = omega (arith, depth_joined rest b)

pub lines_after : (old : Stack) (inner : Nodes)
    → lines_in (joined old (node_on (Sub inner) none)) ≡ lines_in old + lines_in (stack_of inner.vec.items)
lines_after old inner =
    let s : Stack = sub (stack_of inner.vec.items) none in
    omega (arith, ap (λ (new : Stack). lines_in (joined old new)) (node_on-Sub inner none), lines_joined old s)

pub depth_after : (old : Stack) (inner : Nodes)
    → depth (joined old (node_on (Sub inner) none)) ≡ max (depth old) (depth (stack_of inner.vec.items) + 1)
depth_after old inner =
    let s : Stack = sub (stack_of inner.vec.items) none in
    omega (arith, ap (λ (new : Stack). depth (joined old new)) (node_on-Sub inner none), depth_joined old s)
