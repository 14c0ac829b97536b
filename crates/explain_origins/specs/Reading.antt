-- What the parts of a second reading give (this project's own).
use Rattle.std.specs.Prelude.{◌≡◌, ℕ, ◌-◌, nat_eq, Bool, true, false, not, List, [], ◌∷◌, ◌++◌, Option, Some, None, Result, Ok, Err, if◌then◌else◌}
use Rattle.std.specs.List.{list_any}
use Rattle.pam_base.specs.declared.fault.Failed.{Failed}
use Rattle.pam_base.specs.declared.fault.FaultKind.{FaultKind}
use Rattle.pam_base.specs.declared.fault.Refuse.{Refuse}
use Rattle.pam_base.specs.declared.fault.Refuse.TheVariants.{NoMemory, Named}
use Rattle.pam_outside.specs.Counts.{Rose}
use Rattle.pam_outside.specs.Files.{VaultState}
use Rattle.control_words.specs.conf_lex.specs.declared.token.RawRule.{RawRule}
use Rattle.explain_lines.specs.declared.origin.Origin.{Origin}
use Rattle.explain_origins.specs.declared.files.Inclusion.{Inclusion}
use Rattle.explain_origins.specs.declared.step.Step.{Step}
use Rattle.explain_origins.specs.declared.step.Step.TheVariants.{Nothing, Line, File}
use Rattle.explain_origins.specs.Placed.{Placed, is_nothing, placed, places}
use Rattle.service_load.specs.declared.entry.RuleContent.{RuleContent}
use Rattle.service_load.specs.declared.entry.RuleContent.TheVariants as contents
use Rattle.service_load.specs.declared.entry.ConfigEntry.{ConfigEntry}
use Rattle.service_load.specs.declared.rule_file.RuleFile.{RuleFile}
use Rattle.service_load.specs.declared.rule_type.RuleType.{RuleType}
use Rattle.service_load.specs.declared.type_field.TypeField.{TypeField}
use Rattle.service_load.specs.Entry.{entry_of}
use Rattle.service_load.specs.Files.{own_rules, plain_file}
use Rattle.service_load.specs.RuleType.{same_type}
use Rattle.service_load.specs.Tree.{serves}

-- the count of faults rose if a file couldn't be read, and stays with every other result
abbrev pub CountsReads : {A : Type 0} → Result A (Refuse Failed) → ℕ → ℕ → Type 0
CountsReads (Ok x) before now = now ≡ before
CountsReads (Err (Named f)) before now = Rose before now
CountsReads (Err NoMemory) before now = now ≡ before

-- whether the last access to modelled files is planned to fail
unfoldable pub ends_failing : VaultState → Bool
ends_failing vault = list_any (λ n. nat_eq n vault.calls) vault.fails

-- the rules of a text were read, if it is there and has no fault; `meant` are those of the service
abbrev pub ReadsRules : Result (Option (List RawRule)) (Refuse Failed) → Option (List ℕ)
    → List RawRule → Type 0
ReadsRules (Ok (Some rules)) service meant = meant ≡ own_rules service rules
ReadsRules (Ok None) service meant = meant ≡ []
ReadsRules (Err x) service meant = Unit {0}

-- what a rule in a line adds, from what it says
abbrev pub step_at : ℕ → RuleContent → Step
step_at line (contents.Line rule) = Line line
step_at line (contents.Include name) = File name false
step_at line (contents.Substack name) = File name true

-- a rule with a fault adds nothing
abbrev pub step_from : ℕ → Result RuleContent FaultKind → Step
step_from line (Ok content) = step_at line content
step_from line (Err kind) = Nothing

-- what a rule that names a file adds
abbrev pub step_to : Bool → Result (List ℕ) FaultKind → Step
step_to as_substack (Ok name) = File name as_substack
step_to as_substack (Err kind) = Nothing

-- what it adds to the stack of a type: nothing unless it is for that type
abbrev pub step_by : RuleType → Result ConfigEntry FaultKind → Step
step_by type (Ok entry) =
    if serves type entry.rule_type then step_at entry.line entry.content else Nothing
step_by type (Err kind) = Nothing

-- what a rule adds, if it is one of those that are meant
abbrev pub step_of_rules : RuleType → Bool → List RawRule → Step
step_of_rules type in_directory [] = Nothing
step_of_rules type in_directory (r ∷ rs) = step_by type (entry_of in_directory r)

-- whether a type field is of this type
abbrev pub is_type : RuleType → Option TypeField → Bool
is_type type None = false
is_type type (Some field) = same_type type field.rule_type

-- what a rule adds was taken, in the file with this name: its line was added, or it gives the file that it includes
abbrev pub Takes : {E : Type 0} → Result (Option Inclusion) E → Step → List ℕ → List Origin → List Origin → Bool → Bool → Type 0
Takes (Err x) step name before after was any = Unit {0}
Takes (Ok left) Nothing name before after was any = (left ≡ None) × (after ≡ before) × (any ≡ was)
Takes (Ok left) (Line number) name before after was any = (left ≡ None)
    × (after ≡ before ++ record { file = name; line = number } ∷ []) × (any ≡ true)
Takes (Ok left) (File inner as_substack) name before after was any =
    (left ≡ Some (record { file = plain_file inner; as_substack = as_substack }))
    × (after ≡ before) × (any ≡ was)

-- the places of a file were added, and it is known whether it adds something
pub record Adds (any : Bool) (before after : List Origin) (file : Placed) : Type 0 where
  pub added : after ≡ before ++ places file
  pub found : any ≡ not (is_nothing file)

-- what a file at this level adds
abbrev pub placed_at : (List ℕ → Option (List ℕ)) → ℕ → RuleType → RuleFile → Placed
placed_at texts level type file = placed texts (17 - level) type file
