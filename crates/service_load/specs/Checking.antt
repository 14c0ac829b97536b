-- The check of a file's rules, one after another (this project's own).
use Rattle.std.specs.Prelude.{◌≡◌, ℕ, Bool, List, [], ◌∷◌, Option, Some, None, Result, Ok, Err}
use Rattle.std.specs.List.{filter}
use Rattle.pam_base.specs.declared.fault.FaultKind.{FaultKind}
use Rattle.control_words.specs.conf_lex.specs.declared.token.Token.{Token}
use Rattle.control_words.specs.conf_lex.specs.declared.token.RawRule.{RawRule}
use Rattle.control_words.specs.conf_lex.specs.declared.token.LexFault.{LexFault}
use Rattle.service_load.specs.declared.entry.ConfigEntry.{ConfigEntry}
use Rattle.service_load.specs.declared.rule_type.RuleType.{RuleType}
use Rattle.service_load.specs.Answers.{result_map}
use Rattle.service_load.specs.Entry.{entry_of}
use Rattle.service_load.specs.Files.{FileContent, absent, faulty, holds}
use Rattle.service_load.specs.Tree.{serves}

-- an entry before those of the rules after it, or the fault of the rule in this line
abbrev pub with_entry : ℕ → Result ConfigEntry FaultKind → Result (List ConfigEntry) LexFault
    → Result (List ConfigEntry) LexFault
with_entry line (Ok entry) more = result_map (λ es. entry ∷ es) more
with_entry line (Err kind) more = Err (record { line = line; kind = kind })

-- what some rules say, or the fault of the first that has one
abbrev pub checked_entries : Bool → List RawRule → Result (List ConfigEntry) LexFault
checked_entries in_directory [] = Ok []
checked_entries in_directory (r ∷ rs) =
    with_entry r.line (entry_of in_directory r) (checked_entries in_directory rs)

-- what the rules of a file say, if it is there, or its first fault
abbrev pub entries_held : Bool → FileContent → Result (Option (List ConfigEntry)) LexFault
entries_held in_directory absent = Ok None
entries_held in_directory (faulty fault) = Err fault
entries_held in_directory (holds rules) = result_map Some (checked_entries in_directory rules)

-- the fields of a rule that was asked for, which begins in this line
abbrev pub GivesFields : Option (List Token) → ℕ → List RawRule → Type 0
GivesFields None line own = own ≡ []
GivesFields (Some tokens) line own = own ≡ record { line = line; tokens = tokens } ∷ []

-- the entries that serve a type (pam.conf(5))
abbrev pub entries_of_type : RuleType → List ConfigEntry → List ConfigEntry
entries_of_type type entries = filter (λ e. serves type e.rule_type) entries
