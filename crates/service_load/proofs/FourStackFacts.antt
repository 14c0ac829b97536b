-- Four stacks that are set one after another, by their types.
use Rattle.std.proofs.Common.{◌≡◌, ℕ, ◌+◌, ◌<◌, ◌≤◌, List, [], ◌∷◌, length, drop, get_or, drop_of_length-le, sym, ap, ◌∙◌}
use Rattle.std.proofs.lemmas.List.{drop_more}
use Rattle.control_words.specs.Stack.{Stack}
use Rattle.service_load.specs.declared.rule_type.RuleType.{RuleType}
use Rattle.service_load.specs.RuleType.{all_types}
use Rattle.service_load.specs.Stacks.{Stacks, stacks_of, with_stack}

-- once the stacks of these types are set too
abbrev pub filled : (RuleType → Stack) → List RuleType → Stacks → Stacks
filled stack [] stacks = stacks
filled stack (type ∷ types) stacks = filled stack types (with_stack stacks type (stack type))

-- one more type
pub filled_next : (stack : RuleType → Stack) (now next all : Stacks) (i : ℕ) (d : RuleType) → i < length all_types
    → filled stack (drop i all_types) now ≡ all → next ≡ with_stack now (get_or all_types i d) (stack (get_or all_types i d))
    → filled stack (drop (i + 1) all_types) next ≡ all
filled_next stack now next all i d within was set =
    ap (filled stack (drop (i + 1) all_types)) set
    ∙ sym (ap (λ (types : List RuleType). filled stack types now) (drop_more all_types i d within)) ∙ was

-- all are set
pub filled_all : (stack : RuleType → Stack) (now : Stacks) (i : ℕ) → length all_types ≤ i
    → filled stack (drop i all_types) now ≡ stacks_of stack → now ≡ stacks_of stack
filled_all stack now i past was = sym (ap (λ (types : List RuleType). filled stack types now) (drop_of_length-le all_types past)) ∙ was
