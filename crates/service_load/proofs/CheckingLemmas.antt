-- What was found in the rules so far, and what is left.
use Rattle.std.proofs.Common.{◌≡◌, ℕ, Bool, List, [], ◌∷◌, ◌++◌, Some, Ok, Err, refl}
use Rattle.pam_base.specs.declared.fault.FaultKind.{FaultKind}
use Rattle.control_words.specs.conf_lex.specs.declared.token.Token.{Token}
use Rattle.control_words.specs.conf_lex.specs.declared.token.RawRule.{RawRule}
use Rattle.service_load.specs.declared.entry.ConfigEntry.{ConfigEntry}
use Rattle.service_load.specs.Answers.{with_rules_first}
use Rattle.service_load.specs.Checking.{checked_entries, GivesFields}
use Rattle.service_load.specs.Entry.{entry_of, entry_of_tokens}

pub adds_entry : (in_directory : Bool) (line : ℕ) (fields : List Token) (own : List RawRule) (old new : List ConfigEntry) (entry : ConfigEntry)
    → GivesFields (Some fields) line own → entry_of_tokens line in_directory fields ≡ Ok entry → new ≡ old ++ entry ∷ []
    → with_rules_first old (checked_entries in_directory own) ≡ Ok new
unfolding entry_of
adds_entry in_directory line fields own old new entry gives is added = rw (gives, is, added) refl

pub adds_fault : (in_directory : Bool) (line : ℕ) (fields : List Token) (own : List RawRule) (kind : FaultKind) → GivesFields (Some fields) line own
    → entry_of_tokens line in_directory fields ≡ Err kind → checked_entries in_directory own ≡ Err (record { line = line; kind = kind })
unfolding entry_of
adds_fault in_directory line fields own kind gives is = rw (gives, is) refl
