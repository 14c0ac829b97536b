-- The rules that the text of a file holds.
use Rattle.std.proofs.Common.{◌≡◌, ℕ, ◌<◌, List, [], ◌∷◌, length, Option, Some, None, Ok, Err, refl}
use Rattle.std.specs.Prelude.{IsSomeAnd}
use Rattle.std.proofs.lemmas.Bool.{lt-ltb}
use Rattle.control_words.specs.conf_lex.specs.Answer.{answer_to}
use Rattle.control_words.specs.conf_lex.specs.declared.token.RawRule.{RawRule}
use Rattle.control_words.specs.conf_lex.specs.declared.token.LexFault.{LexFault}
use Rattle.service_load.specs.Files.{held_in_conf, held_answer, held_text, rules_held, own_rules}

-- a file that doesn't exist
pub none_held : (service text : Option (List ℕ)) → text ≡ None → rules_held (held_text service text) ≡ []
none_held service text is = rw is refl

-- one that is too long
pub long_held : (service text : Option (List ℕ)) → IsSomeAnd text (λ bytes. 65536 < length bytes) → rules_held (held_text service text) ≡ []
unfolding answer_to
long_held service (Some text) long = rw (lt-ltb 65536 (length text) long) refl
long_held service None long = absurd long

-- one whose text has a fault
pub fault_held : (service text : Option (List ℕ)) (bytes : List ℕ) (fault : LexFault) → text ≡ Some bytes → answer_to bytes ≡ Err fault
    → rules_held (held_text service text) ≡ []
fault_held service text bytes fault is faulty = rw (is, faulty) refl

in_conf : (rules : List RawRule) → rules_held (held_in_conf rules) ≡ rules
in_conf [] = refl
in_conf (r ∷ rs) = refl

by_answer : (service : Option (List ℕ)) (rules : List RawRule) → rules_held (held_answer service (Ok rules)) ≡ own_rules service rules
by_answer None rules = refl
by_answer (Some service) rules = in_conf (own_rules (Some service) rules)

-- a file without a fault
pub rules_are_held : (service text : Option (List ℕ)) (bytes : List ℕ) (rules : List RawRule) → text ≡ Some bytes → answer_to bytes ≡ Ok rules
    → rules_held (held_text service text) ≡ own_rules service rules
rules_are_held service text bytes rules is read = rw (is, read) (by_answer service rules)
