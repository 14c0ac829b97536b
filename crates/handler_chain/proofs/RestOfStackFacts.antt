-- The stack of the nodes from an index on, by the kind of the node at that index.
use Rattle.std.proofs.Common.{◌≡◌, ℕ, ◌+◌, ◌<◌, List, ◌∷◌, length, drop, get_or, refl, sym, ◌∙◌, ap, ◌++◌, append_assoc, [], arith}
use Rattle.std.proofs.lemmas.List.{drop_more}
use Rattle.control_words.specs.declared.nodes.Node.{Node, Line, Sub}
use Rattle.control_words.specs.declared.nodes.Nodes.{Nodes}
use Rattle.control_words.specs.declared.nodes.Rule.{Rule}
use Rattle.control_words.specs.Stack.{Stack, line, sub, node_on, stack_of, lines_in}
use Rattle.handler_chain.specs.Flat.{positions_after}
use Rattle.handler_chain.proofs.NodeListFacts.{node_on-Sub}

peeled : (nodes : List Node) (i : ℕ) (node : Node) → i < length nodes → node ≡ get_or nodes i node
    → stack_of (drop i nodes) ≡ node_on node (stack_of (drop (i + 1) nodes))
peeled nodes i node within is = ap stack_of (drop_more nodes i node within ∙ ap (λ (n : Node). n ∷ drop (i + 1) nodes) (sym is))

pub peeled_line : (nodes : List Node) (i : ℕ) (node : Node) (rule : Rule) → i < length nodes → node ≡ get_or nodes i node → node ≡ Line rule
    → stack_of (drop i nodes) ≡ line rule (stack_of (drop (i + 1) nodes))
peeled_line nodes i node rule within is which = peeled nodes i node within is ∙ ap (λ (n : Node). node_on n (stack_of (drop (i + 1) nodes))) which

pub peeled_sub : (nodes : List Node) (i : ℕ) (node : Node) (inner : Nodes) → i < length nodes → node ≡ get_or nodes i node → node ≡ Sub inner
    → stack_of (drop i nodes) ≡ sub (stack_of inner.vec.items) (stack_of (drop (i + 1) nodes))
peeled_sub nodes i node inner within is which =
    peeled nodes i node within is ∙ ap (λ (n : Node). node_on n (stack_of (drop (i + 1) nodes))) which ∙ node_on-Sub inner (stack_of (drop (i + 1) nodes))

-- a list and what follows its first node, of n lines
pub record IsNext (here the_rest : Stack) (width : ℕ) : Type 0 where
  pub lines : lines_in here ≡ width + lines_in the_rest
  pub marks : (first : ℕ) → positions_after first here ≡ (first + width) ∷ positions_after (first + width) the_rest

pub next_line : (here the_rest : Stack) (rule : Rule) (width : ℕ) → here ≡ line rule the_rest → width ≡ 1 → IsNext here the_rest width
next_line here the_rest rule width is one = rw (is, one) (record { lines = omega arith; marks = λ first. refl })

pub next_sub : (here inner the_rest : Stack) (width : ℕ) → here ≡ sub inner the_rest → width ≡ lines_in inner → IsNext here the_rest width
next_sub here inner the_rest width is counted = rw (is, counted) (record { lines = refl; marks = λ first. refl })

-- one more position was added
pub marked : (all now new : List ℕ) (first width : ℕ) (here the_rest : Stack) → IsNext here the_rest width → now ++ positions_after first here ≡ all
    → new ≡ now ++ (first + width) ∷ []
    → new ++ positions_after (first + width) the_rest ≡ all
marked all now new first width here the_rest next so_far added =
    rw added (append_assoc now ((first + width) ∷ []) (positions_after (first + width) the_rest) ∙ ap (λ (xs : List ℕ). now ++ xs) (sym (next.marks first)) ∙ so_far)
