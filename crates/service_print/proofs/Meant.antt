-- What a rule of a file means for a stack, and what a load meets by it.
use Rattle.std.proofs.Common.{◌≡◌, ℕ, Bool, true, false, cond, List, [], ◌∷◌, ◌++◌, Option}
use Rattle.std.specs.Result.{is_ok}
use Rattle.conf_lex.specs.declared.token.RawRule.{RawRule}
use Rattle.control_words.specs.declared.nodes.Rule.{Rule}
use Rattle.control_words.specs.Stack.{Stack, none, line, sub, joined}
use Rattle.service_load.specs.declared.rule_type.RuleType.{RuleType}
use Rattle.service_load.specs.Entry.{entry_of}
use Rattle.service_load.specs.Files.{plain_file, entries_of}
use Rattle.service_load.specs.Order.{by_rule, Item, made, items_of, items}
use Rattle.service_load.specs.Tree.{serves, nodes_of}

-- what a rule is: a line, the nodes of a file or a substack of them, for one type or for all; or it has a fault
pub data Meaning : Type 0 where
  nothing : Meaning
  a_line : Option RuleType → Rule → Meaning
  an_include : Option RuleType → List ℕ → Meaning
  a_substack : Option RuleType → List ℕ → Meaning

abbrev pub is_meant : Meaning → Bool
is_meant nothing = false
is_meant meaning = true

-- what it adds to a stack
abbrev pub meant_nodes : (List ℕ → Stack) → RuleType → Meaning → Stack
meant_nodes deeper type nothing = none
meant_nodes deeper type (a_line own rule) = cond (serves type own) (line rule none) none
meant_nodes deeper type (an_include own file) = cond (serves type own) (deeper file) none
meant_nodes deeper type (a_substack own file) = cond (serves type own) (sub (deeper file) none) none

-- what a load meets because of it, if n more levels of files may be opened
abbrev pub meant_items : (List ℕ → Option (List ℕ)) → ℕ → RuleType → List ℕ → ℕ → Meaning → List Item
meant_items texts levels type name number nothing = []
meant_items texts levels type name number (a_line own rule) = cond (serves type own) (made name number ∷ []) []
meant_items texts levels type name number (an_include own file) = cond (serves type own) (items texts levels type (by_rule name number) (plain_file file)) []
meant_items texts levels type name number (a_substack own file) = cond (serves type own) (items texts levels type (by_rule name number) (plain_file file)) []

-- the nodes of some rules, and what a load meets by them
abbrev pub nodes_from : (List ℕ → Stack) → Bool → RuleType → List RawRule → Stack
nodes_from deeper in_directory type rules = nodes_of deeper type (entries_of in_directory rules)

abbrev pub items_from : (List ℕ → Option (List ℕ)) → ℕ → Bool → RuleType → List ℕ → List RawRule → List Item
items_from texts levels in_directory type name rules = items_of (items texts levels type) type name (entries_of in_directory rules)

-- a rule has this meaning
pub record IsMeant (in_directory : Bool) (rule : RawRule) (meaning : Meaning) : Type 0 where
  pub nodes : (deeper : List ℕ → Stack) (type : RuleType) (rules : List RawRule)
      → nodes_from deeper in_directory type (rule ∷ rules) ≡ joined (meant_nodes deeper type meaning) (nodes_from deeper in_directory type rules)
  pub items : (texts : List ℕ → Option (List ℕ)) (levels : ℕ) (type : RuleType) (name : List ℕ) (rules : List RawRule)
      → items_from texts levels in_directory type name (rule ∷ rules) ≡ meant_items texts levels type name rule.line meaning ++ items_from texts levels in_directory type name rules
  pub fine : is_ok (entry_of in_directory rule) ≡ is_meant meaning
