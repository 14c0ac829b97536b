-- Files of rules (pam.d(5), pam.conf(5)): what each holds. `texts` gives the text of each file that is there, by its
-- name.
use Rattle.std.specs.Prelude.{ℕ, Bool, true, false, List, [], ◌∷◌, ◌++◌, Option, Some, None, Result, Ok, Err, codes, if◌then◌else◌}
use Rattle.std.specs.List.{flat_map, filter_map, list_all}
use Rattle.std.specs.Str.{str_to_ascii_lowercase}
use Rattle.std.specs.Option.{is_none}
use Rattle.std.specs.Result.{result_ok, is_ok}
use Rattle.control_words.specs.conf_lex.specs.Answer.{answer_to}
use Rattle.control_words.specs.conf_lex.specs.declared.token.Token.{Token}
use Rattle.control_words.specs.conf_lex.specs.declared.token.RawRule.{RawRule}
use Rattle.control_words.specs.conf_lex.specs.declared.token.LexFault.{LexFault}
use Rattle.service_load.specs.declared.entry.ConfigEntry.{ConfigEntry}
use Rattle.service_load.specs.declared.rule_file.RuleFile.{RuleFile}
use Rattle.service_load.specs.Entry.{entry_of}
use Rattle.service_load.specs.RuleType.{is_word}

-- the file with this name, in the form of `/etc/pam.d` (pam.d(5))
abbrev pub plain_file : List ℕ → RuleFile
plain_file name = record { name = name; service = None }

-- the file of a service (pam.d(5)): one in the directory if it exists, else pam.conf; a service is
-- put in lower case (this project's own)
abbrev pub service_file : Bool → List ℕ → RuleFile
service_file true service = plain_file (codes "/etc/pam.d/" ++ str_to_ascii_lowercase service)
service_file false service = record {
  name = codes "/etc/pam.conf";
  service = Some (str_to_ascii_lowercase service);
}

-- a rule of pam.conf without its service, if it is one of this service (pam.conf(5))
abbrev pub rule_without : List ℕ → ℕ → List Token → List RawRule
rule_without service line [] = []
rule_without service line (t ∷ ts) = if is_word service t
    then record { line = line; tokens = ts } ∷ [] else []

-- a rule if it is asked for: in a file of the directory, or in pam.conf without its service if it
-- is one of the service
abbrev pub own_rule : Option (List ℕ) → RawRule → List RawRule
own_rule None rule = rule ∷ []
own_rule (Some service) rule = rule_without service rule.line rule.tokens

-- the rules of a text that were asked for (pam.conf(5))
abbrev pub own_rules : Option (List ℕ) → List RawRule → List RawRule
own_rules service rules = flat_map (own_rule service) rules

-- the content of a file: it doesn't exist, its text has a fault, or it has these rules (this
-- project's own)
pub data FileContent : Type 0 where
  absent : FileContent
  faulty : LexFault → FileContent
  holds : List RawRule → FileContent

-- a service doesn't exist if pam.conf has no rule of it (this project's own)
abbrev pub held_in_conf : List RawRule → FileContent
held_in_conf [] = absent
held_in_conf (r ∷ rs) = holds (r ∷ rs)

-- the rules asked for, in a file of the directory or in pam.conf
abbrev pub held_for : Option (List ℕ) → List RawRule → FileContent
held_for None rules = holds (own_rules None rules)
held_for (Some service) rules = held_in_conf (own_rules (Some service) rules)

-- by the result for the text
abbrev pub held_answer : Option (List ℕ) → Result (List RawRule) LexFault → FileContent
held_answer service (Ok rules) = held_for service rules
held_answer service (Err fault) = faulty fault

-- by the text, if the file is there
abbrev pub held_text : Option (List ℕ) → Option (List ℕ) → FileContent
held_text service None = absent
held_text service (Some text) = held_answer service (answer_to text)

module _ (texts : List ℕ → Option (List ℕ)) where
  -- the content of this file
  abbrev pub held : RuleFile → FileContent
  held file = held_text file.service (texts file.name)

-- the rules of the content of a file
abbrev pub rules_held : FileContent → List RawRule
rules_held (holds rules) = rules
rules_held other = []

-- whether there is no content
abbrev pub is_absent : FileContent → Bool
is_absent absent = true
is_absent other = false

-- whether a file has the form of `/etc/pam.d`
abbrev pub is_in_directory : RuleFile → Bool
is_in_directory file = is_none file.service

-- what the rules of a file say; a rule with a fault says nothing
abbrev pub entries_of : Bool → List RawRule → List ConfigEntry
entries_of in_directory rules = filter_map (λ r. result_ok (entry_of in_directory r)) rules

-- whether no rule has a fault
abbrev pub all_fine : Bool → List RawRule → Bool
all_fine in_directory rules = list_all (λ r. is_ok (entry_of in_directory r)) rules
