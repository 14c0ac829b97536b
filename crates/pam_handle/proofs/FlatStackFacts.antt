-- The stacks of a service, flattened type by type.
use Rattle.std.proofs.Common.{◌≡◌, ℕ, ◌+◌, ◌<◌, ◌≤◌, length, drop, get_or, ap, ◌∙◌}
use Rattle.dispatch_core.specs.control_words.specs.Stack.{Stack, stack_of}
use Rattle.dispatch_core.specs.service_load.specs.declared.rule_type.RuleType.{RuleType}
use Rattle.dispatch_core.specs.service_load.specs.declared.rule_type.RuleType.TheVariants.{Auth, Account, Password, Session}
use Rattle.dispatch_core.specs.service_load.specs.Load.{AreBounded}
use Rattle.dispatch_core.specs.service_load.specs.Loading.{IsBounded}
use Rattle.dispatch_core.specs.service_load.specs.RuleType.{all_types}
use Rattle.dispatch_core.specs.service_load.specs.Stacks.{Stacks, with_stack}
use Rattle.dispatch_core.specs.service_load.specs.Trees.{Trees, nodes_in, stacks_of_trees}
use Rattle.dispatch_core.specs.service_load.proofs.FourStackFacts.{filled, filled_all, filled_next}

-- the stack of a type
abbrev pub stack_in : Trees → RuleType → Stack
stack_in trees type = stack_of (nodes_in trees type).vec.items

pub bounded_at : (trees : Trees) (type : RuleType) → AreBounded trees → IsBounded (stack_in trees type)
bounded_at trees Auth are = are.auth
bounded_at trees Account are = are.account
bounded_at trees Password are = are.password
bounded_at trees Session are = are.session

pub laid_next : (trees : Trees) (now next : Stacks) (stack : Stack) (i : ℕ) (d : RuleType) → i < length all_types
    → filled (stack_in trees) (drop i all_types) now ≡ stacks_of_trees trees
    → stack ≡ stack_in trees (get_or all_types i d) → next ≡ with_stack now (get_or all_types i d) stack
    → filled (stack_in trees) (drop (i + 1) all_types) next ≡ stacks_of_trees trees
laid_next trees now next stack i d within was is set =
    filled_next (stack_in trees) now next _ i d within was (set ∙ ap (with_stack now (get_or all_types i d)) is)

pub laid_all : (trees : Trees) (now : Stacks) (i : ℕ) → length all_types ≤ i
    → filled (stack_in trees) (drop i all_types) now ≡ stacks_of_trees trees → now ≡ stacks_of_trees trees
laid_all trees now i past was = filled_all (stack_in trees) now i past was
