-- The stack of a service for a type, with the place of each rule beside it: a recursion on the files, as that of
-- service_load's Tree (this project's own).
use Rattle.std.specs.Prelude.{ℕ, zero, suc, Bool, true, false, List, [], ◌∷◌, ◌++◌, Option, codes, if◌then◌else◌}
use Rattle.control_words.specs.declared.nodes.Rule.{Rule}
use Rattle.control_words.specs.Stack.{Stack, none, line, sub}
use Rattle.explain_lines.specs.declared.origin.Origin.{Origin}
use Rattle.explain_lines.specs.Origins.{Sources}
use Rattle.service_load.specs.declared.entry.RuleContent.{RuleContent}
use Rattle.service_load.specs.declared.entry.RuleContent.TheVariants.{Line, Include, Substack}
use Rattle.service_load.specs.declared.entry.ConfigEntry.{ConfigEntry}
use Rattle.service_load.specs.declared.rule_file.RuleFile.{RuleFile}
use Rattle.service_load.specs.declared.rule_type.RuleType.{RuleType}
use Rattle.service_load.specs.declared.rule_type.RuleType.TheVariants.{Auth, Account, Password, Session}
use Rattle.service_load.specs.Files.{plain_file, service_file, held, rules_held, entries_of, is_in_directory}
use Rattle.service_load.specs.Tree.{serves}

-- a list of lines, each with the file and line in which its rule is written, and of substacks
pub data Placed : Type 0 where
  nothing : Placed
  rule_at : Origin → Rule → Placed → Placed
  within : Placed → Placed → Placed

-- one list after another
abbrev pub appended : Placed → Placed → Placed
appended nothing more = more
appended (rule_at origin rule rest) more = rule_at origin rule (appended rest more)
appended (within inner rest) more = within inner (appended rest more)

abbrev pub is_nothing : Placed → Bool
is_nothing nothing = true
is_nothing (rule_at origin rule rest) = false
is_nothing (within inner rest) = false

-- the stack without the places
abbrev pub forgotten : Placed → Stack
forgotten nothing = none
forgotten (rule_at origin rule rest) = line rule (forgotten rest)
forgotten (within inner rest) = sub (forgotten inner) (forgotten rest)

-- the places, by the numbers of the rules
abbrev pub places : Placed → List Origin
places nothing = []
places (rule_at origin rule rest) = origin ∷ places rest
places (within inner rest) = places inner ++ places rest

-- what an entry in a line of the file with this name adds, if `deeper` is what a file adds
abbrev pub content_placed : (List ℕ → Placed) → List ℕ → ℕ → RuleContent → Placed
content_placed deeper name number (Line rule) =
    rule_at (record { file = name; line = number }) rule nothing
content_placed deeper name number (Include file) = deeper file
content_placed deeper name number (Substack file) = within (deeper file) nothing

-- what it adds to the stack of a type: nothing unless it is for that type
abbrev pub entry_placed : (List ℕ → Placed) → RuleType → List ℕ → ConfigEntry → Placed
entry_placed deeper type name entry = if serves type entry.rule_type
    then content_placed deeper name entry.line entry.content else nothing

-- what the entries of a file add, in order
abbrev pub placed_of : (List ℕ → Placed) → RuleType → List ℕ → List ConfigEntry → Placed
placed_of deeper type name [] = nothing
placed_of deeper type name (e ∷ es) =
    appended (entry_placed deeper type name e) (placed_of deeper type name es)

-- the list of a service, or that of `other` if it is empty
abbrev pub placed_if : Placed → Placed → Placed
placed_if own other = if is_nothing own then other else own

module _ (texts : List ℕ → Option (List ℕ)) where
  -- what a file adds for a type, if n more levels of files may be opened: nothing beyond them
  unfoldable pub placed : ℕ → RuleType → RuleFile → Placed
  placed zero type file = nothing
  placed (suc levels) type file =
      placed_of (λ name. placed levels type (plain_file name)) type file.name
      (entries_of (is_in_directory file) (rules_held (held texts file)))

  -- what a service's file adds for a type, at level 0 of 16, or the file of `other`
  abbrev pub placed_from : RuleFile → RuleFile → RuleType → Placed
  placed_from own other type = placed_if (placed 17 type own) (placed 17 type other)

  -- the stack of a service for a type, with the places of its rules
  abbrev pub placed_tree : Bool → List ℕ → RuleType → Placed
  placed_tree is_directory service =
      placed_from (service_file is_directory service) (service_file is_directory (codes "other"))

  -- the places of the rules of all four stacks
  abbrev pub sources_of_all : (RuleType → Placed) → Sources
  sources_of_all stack = record {
    auth = places (stack Auth);
    account = places (stack Account);
    password = places (stack Password);
    session = places (stack Session);
  }

  abbrev pub sources_at : Bool → List ℕ → Sources
  sources_at is_directory service = sources_of_all (placed_tree is_directory service)
