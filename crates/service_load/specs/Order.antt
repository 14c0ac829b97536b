-- What a load meets, in the order in which it meets it (this project's own): a list, depth first, for the four types
-- in turn.
use Rattle.std.specs.Prelude.{ℕ, zero, suc, ◌+◌, ◌-◌, Bool, List, [], ◌∷◌, ◌++◌, map, Option, codes, ◌==◌, if◌then◌else◌}
use Rattle.std.specs.List.{flat_map}
use Rattle.control_words.specs.conf_lex.specs.declared.token.RawRule.{RawRule}
use Rattle.control_words.specs.Stack.{count}
use Rattle.service_load.specs.declared.entry.RuleContent.{RuleContent}
use Rattle.service_load.specs.declared.entry.RuleContent.TheVariants.{Line, Include, Substack}
use Rattle.service_load.specs.declared.entry.ConfigEntry.{ConfigEntry}
use Rattle.service_load.specs.declared.rule_file.RuleFile.{RuleFile}
use Rattle.service_load.specs.declared.rule_type.RuleType.{RuleType}
use Rattle.service_load.specs.Files.{plain_file, service_file, held, rules_held, is_absent, entries_of, all_fine, is_in_directory}
use Rattle.service_load.specs.RuleType.{all_types}
use Rattle.service_load.specs.Tree.{serves, nodes}

-- why a file is opened: as the service's own, as `other` if the service exists or doesn't (with the
-- name of its file), or by a rule of the file with this name, in this line
pub data Opener : Type 0 where
  as_service : Opener
  as_other : Opener
  as_last : List ℕ → Opener
  by_rule : List ℕ → ℕ → Opener

-- a tree begins; a file is opened, at a level; a rule of it is checked; a line is made, for the rule of a file in a
-- line
pub data Item : Type 0 where
  begin : Item
  opening : RuleFile → ℕ → Opener → Item
  checked : RuleFile → RawRule → Item
  made : List ℕ → ℕ → Item

-- how many files are opened along some items
abbrev pub openings_in : List Item → ℕ
openings_in [] = 0
openings_in (opening file level opener ∷ is) = openings_in is + 1
openings_in (i ∷ is) = openings_in is

-- what an entry of the file with this name adds, if `deeper` is what an opened file adds
abbrev pub content_items : (Opener → RuleFile → List Item) → List ℕ → ℕ → RuleContent → List Item
content_items deeper name line (Line rule) = made name line ∷ []
content_items deeper name line (Include file) = deeper (by_rule name line) (plain_file file)
content_items deeper name line (Substack file) = deeper (by_rule name line) (plain_file file)

-- what it adds to the stack of a type: nothing unless it is for that type
abbrev pub entry_items : (Opener → RuleFile → List Item) → RuleType → List ℕ → ConfigEntry → List Item
entry_items deeper type name entry = if serves type entry.rule_type
    then content_items deeper name entry.line entry.content else []

-- what some entries add, in order
abbrev pub items_of : (Opener → RuleFile → List Item) → RuleType → List ℕ → List ConfigEntry → List Item
items_of deeper type name entries = flat_map (entry_items deeper type name) entries

-- all rules of a file are checked first; if one has a fault nothing follows
abbrev pub file_items : (Opener → RuleFile → List Item) → RuleType → RuleFile → List RawRule
    → List Item
file_items deeper type file rules =
    map (checked file) rules ++ (if all_fine (is_in_directory file) rules
    then items_of deeper type file.name (entries_of (is_in_directory file) rules) else [])

module _ (texts : List ℕ → Option (List ℕ)) where
  -- a file that is opened, and what it adds, if n levels of files may open; at level 17 nothing
  -- follows
  unfoldable pub items : ℕ → RuleType → Opener → RuleFile → List Item
  items zero type opener file = opening file 17 opener ∷ []
  items (suc levels) type opener file = opening file (16 - levels) opener
      ∷ file_items (items levels type) type file (rules_held (held texts file))

  -- how `other` is opened
  abbrev pub other_opener : RuleFile → Opener
  other_opener own = if is_absent (held texts own) then as_last own.name else as_other

  -- one stack: the service's file, and if it has no nodes that of `other`
  abbrev pub tree_items : RuleFile → RuleFile → RuleType → List Item
  tree_items own other type =
      begin ∷ (items 17 type as_service own ++ (if count (nodes texts 17 type own) == 0
      then items 17 type (other_opener own) other else []))

  -- the four stacks of a service's file and that of `other`, in turn
  abbrev pub trees_items : RuleFile → RuleFile → List Item
  trees_items own other = flat_map (tree_items own other) all_types

  -- the whole order
  abbrev pub order : Bool → List ℕ → List Item
  order is_directory service =
      trees_items (service_file is_directory service) (service_file is_directory (codes "other"))
