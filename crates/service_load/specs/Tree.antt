-- The stack of a service for a type (pam.conf(5), pam.d(5)): a recursion on the files, without counts, limits or reads.
use Rattle.std.specs.Prelude.{ℕ, zero, suc, Bool, true, List, [], ◌∷◌, Option, Some, None, codes, ◌==◌, if◌then◌else◌}
use Rattle.control_words.specs.Stack.{Stack, none, line, sub, joined, count}
use Rattle.service_load.specs.declared.entry.RuleContent.{RuleContent}
use Rattle.service_load.specs.declared.entry.RuleContent.TheVariants.{Line, Include, Substack}
use Rattle.service_load.specs.declared.entry.ConfigEntry.{ConfigEntry}
use Rattle.service_load.specs.declared.rule_file.RuleFile.{RuleFile}
use Rattle.service_load.specs.declared.rule_type.RuleType.{RuleType}
use Rattle.service_load.specs.Files.{plain_file, service_file, held, rules_held, entries_of, is_in_directory}
use Rattle.service_load.specs.RuleType.{same_type}

-- whether an entry serves a type (pam.conf(5)); `@include` serves all
abbrev pub serves : RuleType → Option RuleType → Bool
serves type None = true
serves type (Some own) = same_type type own

-- what an entry adds, if `deeper` is the nodes of a file (pam.conf(5), on include and substack): a
-- line, the nodes of a file, or a substack of them
abbrev pub content_nodes : (List ℕ → Stack) → RuleContent → Stack
content_nodes deeper (Line rule) = line rule none
content_nodes deeper (Include file) = deeper file
content_nodes deeper (Substack file) = sub (deeper file) none

-- what it adds to the stack of a type: nothing unless it is for that type
abbrev pub entry_nodes : (List ℕ → Stack) → RuleType → ConfigEntry → Stack
entry_nodes deeper type entry = if serves type entry.rule_type
    then content_nodes deeper entry.content else none

-- what some entries add, in order (pam.conf(5))
abbrev pub nodes_of : (List ℕ → Stack) → RuleType → List ConfigEntry → Stack
nodes_of deeper type [] = none
nodes_of deeper type (e ∷ es) = joined (entry_nodes deeper type e) (nodes_of deeper type es)

-- the nodes of a service, or those of `other` if it has none (pam.conf(5))
abbrev pub tree_of : Stack → Stack → Stack
tree_of own other = if count own == 0 then other else own

module _ (texts : List ℕ → Option (List ℕ)) where
  -- the nodes of a file for a type (pam.conf(5)), if n more levels of files may be opened: none
  -- beyond them
  unfoldable pub nodes : ℕ → RuleType → RuleFile → Stack
  nodes zero type file = none
  nodes (suc levels) type file =
      nodes_of (λ name. nodes levels type (plain_file name)) type
      (entries_of (is_in_directory file) (rules_held (held texts file)))

  -- the stack of a service's file for a type: its nodes, at level 0 of 16, or those of the file of
  -- `other` if it has none
  abbrev pub tree_from : RuleFile → RuleFile → RuleType → Stack
  tree_from own other type = tree_of (nodes 17 type own) (nodes 17 type other)

  -- the tree of a service for a type
  abbrev pub tree : Bool → List ℕ → RuleType → Stack
  tree is_directory service =
      tree_from (service_file is_directory service) (service_file is_directory (codes "other"))
