-- The lines of the rules of a stack (this project's own): the rule's number, where it is written,
-- type, control, module, what is known of the module, path and arguments.
use Rattle.std.specs.Prelude.{ℕ, ◌+◌, ◌-◌, ◌^◌, min, Bool, true, false, List, [], ◌∷◌, ◌++◌, codes}
use Rattle.std.specs.Prelude.{Option, Some, None}
use Rattle.std.specs.Fmt.{decimal}
use Rattle.std.specs.List.{flat_map}
use Rattle.control_words.specs.declared.control.Action.{Action}
use Rattle.control_words.specs.declared.nodes.Rule.{Rule}
use Rattle.control_words.specs.Module.{name_of_module}
use Rattle.service_load.specs.declared.rule_type.RuleType.{RuleType}
use Rattle.service_load.specs.RuleType.{type_word}
use Rattle.explain_lines.specs.declared.origin.Origin.{Origin}
use Rattle.explain_lines.specs.Text.{origin_at}
use Rattle.module_table.specs.declared.entry.Entry.{Entry}
use Rattle.module_table.specs.Entries.{entry_for}
use Rattle.module_table.specs.Judging.{judging_word}
use Rattle.ways_lines.specs.declared.row.Row.{Row}
use Rattle.ways_lines.specs.declared.row.Row.TheVariants as rows
use Rattle.ways_lines.specs.Controls.{control_text}
use Rattle.ways_lines.specs.Fields.{field, number_field}

-- ---- where it is written

-- the file and line
unfoldable pub place_fields : Origin → List ℕ
place_fields origin = field origin.file ++ (codes "\t" ++ decimal origin.line)

abbrev pub origin_fields : Option Origin → List ℕ
origin_fields None = codes "\t?\t0"
origin_fields (Some origin) = place_fields origin

-- the word, the number, and where it is written
unfoldable pub rule_head : List Origin → ℕ → List ℕ
rule_head origins place = codes "rule"
    ++ (number_field place ++ origin_fields (origin_at origins place))

-- ---- type and control

-- a `-` before the type if no note is made of a missing module (pam.conf(5))
abbrev pub dash : Bool → List ℕ
dash true = codes "-"
dash false = []

unfoldable pub type_field : RuleType → Bool → List ℕ
type_field type silent = codes "\t" ++ (dash silent ++ type_word type)

unfoldable pub control_field : List Action → List ℕ
control_field control = codes "\t" ++ control_text control

unfoldable pub action_fields : RuleType → Rule → List ℕ
action_fields type rule = type_field type rule.silent ++ control_field rule.control

-- ---- the module

-- what the module's SUCCESS says, the codes that it may return, and why this is taken to hold
unfoldable pub known_fields : Entry → List ℕ
known_fields e = codes "\t" ++ (judging_word e.judging ++ (field e.codes ++ field e.basis))

abbrev pub entry_fields : Option Entry → List ℕ
entry_fields None = codes "\tasks\tany\tunknown"
entry_fields (Some e) = known_fields e

unfoldable pub module_fields : RuleType → List Entry → List ℕ → List ℕ
module_fields type table name = field name ++ entry_fields (entry_for table name (type_word type))

-- its path and its arguments, which are the last fields
unfoldable pub path_fields : Rule → List ℕ
path_fields rule = field rule.path ++ (flat_map field rule.args ++ codes "\n")

-- ---- the lines

unfoldable pub rule_text : RuleType → List Origin → List Entry → ℕ → Rule → List ℕ
rule_text type origins table place rule = rule_head origins place ++ (action_fields type rule
    ++ (module_fields type table (name_of_module rule.path) ++ path_fields rule))

-- the number of the next rule; it saturates
abbrev pub next_place : ℕ → ℕ
next_place place = min (place + 1) (2 ^ 64 - 1)

abbrev pub rows_text : RuleType → List Origin → List Entry → ℕ → List Row → List ℕ
rows_text type origins table place [] = []
rows_text type origins table place (rows.Rule rule ∷ rest) =
    rule_text type origins table place rule
    ++ rows_text type origins table (next_place place) rest
rows_text type origins table place (rows.Begin ∷ rest) =
    codes "substack\n" ++ rows_text type origins table place rest
rows_text type origins table place (rows.End ∷ rest) =
    codes "end\n" ++ rows_text type origins table place rest
