-- A stack: the lines of a service and its substacks, nested, in the order in which they are written.
use Rattle.std.specs.Prelude.{ℕ, ◌+◌, max, List, [], ◌∷◌}
use Rattle.control_words.specs.declared.nodes.Rule.{Rule}
use Rattle.control_words.specs.declared.nodes.Node.{Node, Line, Sub', Row_of-Node, end_of-Node, more_of-Node}

-- a list of lines and of substacks
pub data Stack : Type 0 where
  none : Stack
  line : Rule → Stack → Stack
  sub : Stack → Stack → Stack

-- one list after another
abbrev pub joined : Stack → Stack → Stack
joined none more = more
joined (line rule rest) more = line rule (joined rest more)
joined (sub inner rest) more = sub inner (joined rest more)

-- how many nodes the list itself has
abbrev pub count : Stack → ℕ
count none = 0
count (line rule rest) = count rest + 1
count (sub inner rest) = count rest + 1

-- how many lines it has, including those of its substacks
abbrev pub lines_in : Stack → ℕ
lines_in none = 0
lines_in (line rule rest) = lines_in rest + 1
lines_in (sub inner rest) = lines_in inner + lines_in rest

-- how deep substacks are nested in it
abbrev pub depth : Stack → ℕ
depth none = 0
depth (line rule rest) = depth rest
depth (sub inner rest) = max (depth inner + 1) (depth rest)

abbrev mutual
  -- the stack with one more node before it
  pub node_on : Node → Stack → Stack
  node_on (Line rule) rest = line rule rest
  node_on (Sub' shape all) rest = sub (row_stack all) rest

  pub row_stack : {m : _} → Row_of-Node m → Stack
  row_stack end_of-Node = none
  row_stack (more_of-Node node rest) = node_on node (row_stack rest)

-- the stack that a list of nodes is
abbrev pub stack_of : List Node → Stack
stack_of [] = none
stack_of (node ∷ nodes) = node_on node (stack_of nodes)
