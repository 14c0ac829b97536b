-- What a rule says (pam.conf(5), pam.d(5)): its fields from left to right, or the first field that is at fault.
use Rattle.std.specs.Prelude.{ℕ, Bool, true, false, List, [], ◌∷◌, ◌++◌, map, Option, Some, None, Result, Ok, Err, codes, ◌==◌, if◌then◌else◌}
use Rattle.pam_base.specs.declared.fault.FaultKind.{FaultKind}
use Rattle.pam_base.specs.declared.fault.FaultKind.TheVariants.{BadType, MissingField}
use Rattle.control_words.specs.conf_lex.specs.declared.token.Token.{Token}
use Rattle.control_words.specs.conf_lex.specs.declared.token.RawRule.{RawRule}
use Rattle.control_words.specs.declared.control.Action.{Action}
use Rattle.control_words.specs.declared.nodes.Rule.{Rule}
use Rattle.control_words.specs.declared.bracket.ControlFault.{ControlFault}
use Rattle.control_words.specs.Bracket.{control_of}
use Rattle.service_load.specs.declared.entry.RuleContent.{RuleContent}
use Rattle.service_load.specs.declared.entry.RuleContent.TheVariants.{Line, Include, Substack}
use Rattle.service_load.specs.declared.entry.ConfigEntry.{ConfigEntry}
use Rattle.service_load.specs.declared.rule_type.RuleType.{RuleType}
use Rattle.service_load.specs.declared.type_field.TypeField.{TypeField}
use Rattle.service_load.specs.Answers.{result_map}
use Rattle.service_load.specs.RuleType.{is_word, type_field_of}

-- the directory of the service files (pam.d(5))
abbrev pub directory_name : List ℕ
directory_name = codes "/etc/pam.d"

-- the name of a file that a rule names (pam.conf(5)): one that doesn't begin with a slash is in the
-- directory
abbrev pub named_file : List ℕ → List ℕ
named_file [] = codes "/etc/pam.d/"
named_file (b ∷ bs) = if b == 47 then b ∷ bs else codes "/etc/pam.d/" ++ b ∷ bs

-- the field that names a file; later ones are ignored (this project's own)
abbrev pub file_field : List Token → Result (List ℕ) FaultKind
file_field [] = Err MissingField
file_field (t ∷ ts) = Ok (named_file t.text)

-- the module's path and its arguments (pam.conf(5))
abbrev pub rule_of : Bool → List Action → List Token → Result Rule FaultKind
rule_of silent control [] = Err MissingField
rule_of silent control (t ∷ ts) =
    Ok (record { silent = silent; control = control; path = t.text; args = map (λ a. a.text) ts })

-- a control and what follows it (pam.conf(5))
abbrev pub with_control : Bool → Result (List Action) ControlFault → List Token
    → Result RuleContent FaultKind
with_control silent (Ok control) tokens = result_map Line (rule_of silent control tokens)
with_control silent (Err fault) tokens = Err fault.kind

-- what follows the type: `include` or `substack` with a file, or a control with a module
-- (pam.conf(5)); a required field that is missing is a fault (this project's own)
abbrev pub after_type : Bool → List Token → Result RuleContent FaultKind
after_type silent [] = Err MissingField
after_type silent (t ∷ ts) =
    if is_word (codes "include") t then result_map Include (file_field ts)
    else if is_word (codes "substack") t then result_map Substack (file_field ts)
    else with_control silent (control_of t.bracketed t.text) ts

-- an entry in this line, for one type or for all (this project's own)
abbrev pub entry_at : ℕ → Option RuleType → Result RuleContent FaultKind → Result ConfigEntry FaultKind
entry_at line rule_type content =
    result_map (λ c. record { line = line; rule_type = rule_type; content = c }) content

-- a rule with this type field (pam.conf(5)); another first field is a fault (this project's own)
abbrev pub with_type : ℕ → Option TypeField → List Token → Result ConfigEntry FaultKind
with_type line None tokens = Err BadType
with_type line (Some field) tokens =
    entry_at line (Some field.rule_type) (after_type field.silent tokens)

-- what a rule of these tokens says; `@include`, Debian's addition, is only in files of the form of
-- `/etc/pam.d` (this project's own)
abbrev pub entry_of_tokens : ℕ → Bool → List Token → Result ConfigEntry FaultKind
entry_of_tokens line in_directory [] = Err MissingField
entry_of_tokens line true (t ∷ ts) = if is_word (codes "@include") t
    then entry_at line None (result_map Include (file_field ts))
    else with_type line (type_field_of t) ts
entry_of_tokens line false (t ∷ ts) = with_type line (type_field_of t) ts

-- what a rule says, in a file of the form of `/etc/pam.d` (pam.d(5)) or in pam.conf after its
-- service (pam.conf(5))
unfoldable pub entry_of : Bool → RawRule → Result ConfigEntry FaultKind
entry_of in_directory rule = entry_of_tokens rule.line in_directory rule.tokens
