-- The ways of a stack as lines (this project's own): a code, and the rules that said yes.
use Rattle.std.specs.Prelude.{ℕ, Bool, true, false, ◌&&◌, ◌==◌, if◌then◌else◌, List, [], ◌∷◌, ◌++◌}
use Rattle.std.specs.Prelude.{AllPairs, All, ◌≡◌, length, Option, Some, None, codes}
use Rattle.std.specs.List.{flat_map, list_any}
use Rattle.pam_base.specs.declared.code.Code.{Code}
use Rattle.pam_base.specs.declared.code.Code.TheVariants.{Success}
use Rattle.pam_base.specs.Code.{name_of}
use Rattle.control_words.specs.declared.nodes.Rule.{Rule}
use Rattle.control_words.specs.Stack.{Stack}
use Rattle.control_words.specs.Module.{name_of_module}
use Rattle.handler_chain.specs.Opinion.{opening, verdict}
use Rattle.service_load.specs.declared.rule_type.RuleType.{RuleType}
use Rattle.service_load.specs.RuleType.{type_word}
use Rattle.stack_ways.specs.LineCodes.{counts_in, possible_in}
use Rattle.stack_ways.specs.Ways.{Apart, WaysOf}
use Rattle.stack_ways.specs.declared.line_codes.LineCodes.{LineCodes}
use Rattle.stack_ways.specs.declared.way.Way.{Way}
use Rattle.explain_lines.specs.declared.origin.Origin.{Origin}
use Rattle.module_table.specs.declared.entry.Entry.{Entry}
use Rattle.module_table.specs.Entries.{codes_of, entry_for}
use Rattle.ways_lines.specs.declared.row.Row.{Row}
use Rattle.ways_lines.specs.declared.row.Row.TheVariants as rows
use Rattle.ways_lines.specs.Fields.{number_field}
use Rattle.ways_lines.specs.Rows.{rows_of}
use Rattle.ways_lines.specs.Rules.{rows_text}

-- ---- what is known of the ways

-- what is assumed of a rule, by its module
abbrev pub assumed_by : List Entry → RuleType → Rule → LineCodes
assumed_by table type rule = codes_of (entry_for table (name_of_module rule.path) (type_word type))

-- what is assumed of each rule of a stack
abbrev pub assumed_of : List Entry → RuleType → List Row → List LineCodes
assumed_of table type [] = []
assumed_of table type (rows.Rule rule ∷ rest) =
    assumed_by table type rule ∷ assumed_of table type rest
assumed_of table type (rows.Begin ∷ rest) = assumed_of table type rest
assumed_of table type (rows.End ∷ rest) = assumed_of table type rest

-- these are the ways in which a stack may end, if its lines return what is assumed
pub record AreWays (assumed : List LineCodes) (stack : Stack) (ways : List Way) : Type 0 where
  pub ways_of : WaysOf (possible_in assumed) (counts_in assumed) stack 1 opening ways
  pub ended : All (λ way. way.skip ≡ 0) ways
  pub apart : AllPairs Apart ways

-- nothing is known if there were too many
abbrev pub IsTold : List LineCodes → Stack → Option (List Way) → Type 0
IsTold assumed stack None = Unit {0}
IsTold assumed stack (Some ways) = AreWays assumed stack ways

-- ---- lines

unfoldable pub way_text : Way → List ℕ
way_text way = codes "way\t"
    ++ (name_of (verdict way.opinion) ++ (flat_map number_field way.marks ++ codes "\n"))

abbrev pub is_success : Code → Bool
is_success Success = true
is_success code = false

abbrev pub is_granting : Way → Bool
is_granting way = is_success (verdict way.opinion)

-- it returns SUCCESS, and no rule had to say yes
abbrev pub is_unasked : Way → Bool
is_unasked way = is_granting way && length way.marks == 0

-- whether a stack may return SUCCESS without a yes, only with one, or never
abbrev pub verdict_word : List Way → List ℕ
verdict_word ways = if list_any is_unasked ways then codes "unasked"
    else if list_any is_granting ways then codes "asked" else codes "denies"

unfoldable pub verdict_text : List ℕ → List ℕ
verdict_text word = codes "verdict\t" ++ (word ++ codes "\n")

unfoldable pub ways_text : List Way → List ℕ
ways_text ways = flat_map way_text ways ++ verdict_text (verdict_word ways)

abbrev pub told_text : Option (List Way) → List ℕ
told_text None = verdict_text (codes "unknown")
told_text (Some ways) = ways_text ways

unfoldable pub stack_head : RuleType → List ℕ
stack_head type = codes "stack\t" ++ (type_word type ++ codes "\n")

-- the lines of a stack
unfoldable pub stack_text : RuleType → List Origin → List Entry → Stack → Option (List Way) → List ℕ
stack_text type origins table stack told = stack_head type
    ++ (rows_text type origins table 1 (rows_of stack) ++ told_text told)

-- the text of a stack was added, with its ways
pub record ShowsStack (type : RuleType) (origins : List Origin) (table : List Entry) (stack : Stack)
    (old new : List ℕ) : Type 0 where
  pub told : Option (List Way)
  pub is_told : IsTold (assumed_of table type (rows_of stack)) stack told
  pub shown : new ≡ old ++ stack_text type origins table stack told
