-- The stacks of a service, one for each type of rule (pam.conf(5)).
use Rattle.control_words.specs.declared.nodes.Nodes.{Nodes}
use Rattle.control_words.specs.Stack.{stack_of}
use Rattle.service_load.specs.ByType.{at_type, with_type}
use Rattle.service_load.specs.declared.by_type.ByType.{ByType}
use Rattle.service_load.specs.declared.rule_type.RuleType.{RuleType}
use Rattle.service_load.specs.Stacks.{Stacks, stacks_of}

abbrev pub Trees : Type 0
Trees = ByType Nodes

-- the nodes of a type
abbrev pub nodes_in : Trees → RuleType → Nodes
nodes_in trees type = at_type trees type

-- their stacks
abbrev pub stacks_of_trees : Trees → Stacks
stacks_of_trees trees = stacks_of (λ type. stack_of (nodes_in trees type).vec.items)

-- the trees with these nodes for a type
abbrev pub with_nodes : Trees → RuleType → Nodes → Trees
with_nodes trees type nodes = with_type trees type nodes
