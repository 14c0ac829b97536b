-- The one form in which the four stacks of a service are printed (pam.d(5); the form is this project's own): a file of
-- the service, and a file for each of its substacks.
use Rattle.std.specs.Prelude.{ℕ, ◌+◌, Bool, List, [], ◌∷◌, ◌++◌, map, codes, decimal, if◌then◌else◌}
use Rattle.control_words.specs.declared.nodes.Rule.{Rule}
use Rattle.control_words.specs.Stack.{Stack, none, line, sub, stack_of}
use Rattle.service_load.specs.declared.rule_type.RuleType.{RuleType}
use Rattle.service_load.specs.RuleType.{all_types, type_word}
use Rattle.service_load.specs.Trees.{Trees, nodes_in}
use Rattle.service_print.specs.declared.file.File.{File}
use Rattle.service_print.specs.Tokens.{spaced, token_text, text_of}
use Rattle.service_print.specs.Controls.{control_text}

-- the type of a rule, with a `-` before it if no note is made of a missing module (pam.conf(5))
abbrev pub type_field : Bool → RuleType → List ℕ
type_field silent type = if silent then 45 ∷ type_word type else type_word type

-- the fields of a rule (pam.conf(5)): type, control, path and arguments
abbrev pub rule_fields : RuleType → Rule → List (List ℕ)
rule_fields type rule = type_field rule.silent type ∷ control_text rule.control
    ∷ token_text rule.path ∷ map token_text rule.args

unfoldable pub rule_line : RuleType → Rule → List ℕ
rule_line type rule = spaced (rule_fields type rule)

-- the rule of a substack whose nodes are in this file
unfoldable pub substack_line : RuleType → List ℕ → List ℕ
substack_line type name = spaced (type_word type ∷ codes "substack" ∷ name ∷ [])

-- the file of a substack, by its number
unfoldable pub numbered : List ℕ → ℕ → List ℕ
numbered service number = service ++ 46 ∷ decimal number

-- how many substacks a stack has, including those inside others
abbrev pub subs_in : Stack → ℕ
subs_in none = 0
subs_in (line rule rest) = subs_in rest
subs_in (sub inner rest) = subs_in inner + 1 + subs_in rest

module _ (service : List ℕ) (type : RuleType) where
  -- the lines of a list of nodes, whose first substack has this number: a substack is numbered
  -- before those inside it, and these before the next node of its list
  unfoldable pub list_lines : ℕ → Stack → List (List ℕ)
  list_lines number none = []
  list_lines number (line rule rest) = rule_line type rule ∷ list_lines number rest
  list_lines number (sub inner rest) = substack_line type (numbered service number)
      ∷ list_lines (number + 1 + subs_in inner) rest

  -- the file of a substack with this number: its nodes, in which substacks are numbered from the
  -- next number on
  abbrev pub substack_file : ℕ → Stack → File
  substack_file number inner = record {
    name = numbered service number;
    text = text_of (list_lines (number + 1) inner);
  }

  -- the files of its substacks, in the order of their numbers
  unfoldable pub substack_files : ℕ → Stack → List File
  substack_files number none = []
  substack_files number (line rule rest) = substack_files number rest
  substack_files number (sub inner rest) =
      substack_file number inner ∷ (substack_files (number + 1) inner
      ++ substack_files (number + 1 + subs_in inner) rest)

-- the lines of several stacks, one after another
abbrev pub all_lines : (RuleType → Stack) → List ℕ → ℕ → List RuleType → List (List ℕ)
all_lines stack service number [] = []
all_lines stack service number (type ∷ types) =
    list_lines service type number (stack type)
    ++ all_lines stack service (number + subs_in (stack type)) types

-- the files of their substacks
abbrev pub all_substack_files : (RuleType → Stack) → List ℕ → ℕ → List RuleType → List File
all_substack_files stack service number [] = []
all_substack_files stack service number (type ∷ types) =
    substack_files service type number (stack type)
    ++ all_substack_files stack service (number + subs_in (stack type)) types

-- the service's file: the lines of auth, account, password and session; their substacks are numbered from 1 on
abbrev pub service_text : (RuleType → Stack) → List ℕ → List ℕ
service_text stack service = text_of (all_lines stack service 1 all_types)

-- the four stacks of a service as files
unfoldable pub printed : (RuleType → Stack) → List ℕ → List File
printed stack service = record { name = service; text = service_text stack service }
    ∷ all_substack_files stack service 1 all_types

-- the four stacks of a load
abbrev pub stacks_in : Trees → RuleType → Stack
stacks_in trees type = stack_of (nodes_in trees type).vec.items
