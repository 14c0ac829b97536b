-- What a rule adds, from what it says.
use Rattle.std.proofs.Common.{◌≡◌, ℕ, Bool, true, false, cond, ◌&&◌, List, ◌∷◌, Option, Some, None, Result, Ok, Err, refl, sym, ◌∙◌}
use Rattle.std.specs.Prelude.{IfOk, codes}
use Rattle.pam_base.specs.declared.fault.FaultKind.{FaultKind}
use Rattle.control_words.specs.conf_lex.specs.declared.token.RawRule.{RawRule}
use Rattle.control_words.specs.conf_lex.specs.declared.token.Token.{Token}
use Rattle.explain_origins.specs.declared.step.Step.{Step}
use Rattle.explain_origins.specs.declared.step.Step.TheVariants.{Nothing}
use Rattle.explain_origins.specs.Reading.{step_from, step_to, step_by, step_of_rules, is_type}
use Rattle.service_load.specs.declared.entry.RuleContent.{RuleContent}
use Rattle.service_load.specs.declared.entry.RuleContent.TheVariants as contents
use Rattle.service_load.specs.declared.rule_type.RuleType.{RuleType}
use Rattle.service_load.specs.declared.type_field.TypeField.{TypeField}
use Rattle.service_load.specs.Answers.{result_map}
use Rattle.service_load.specs.Checking.{GivesFields}
use Rattle.service_load.specs.Entry.{entry_at, with_type, after_type, entry_of, entry_of_tokens, file_field}
use Rattle.service_load.specs.RuleType.{same_type, is_word, type_field_of}

-- ---- a rule that names a file

pub includes : (type : RuleType) (line : ℕ) (name : Result (List ℕ) FaultKind)
    → step_by type (entry_at line None (result_map contents.Include name)) ≡ step_to false name
includes type line (Ok name) = refl
includes type line (Err kind) = refl

pub brings : (line : ℕ) (name : Result (List ℕ) FaultKind) → step_from line (result_map contents.Include name) ≡ step_to false name
brings line (Ok name) = refl
brings line (Err kind) = refl

pub brings_sub : (line : ℕ) (name : Result (List ℕ) FaultKind) → step_from line (result_map contents.Substack name) ≡ step_to true name
brings_sub line (Ok name) = refl
brings_sub line (Err kind) = refl

pub at_include : (type : RuleType) (line : ℕ) (in_directory : Bool) (t : Token) (ts : List Token) → (in_directory && is_word (codes "@include") t) ≡ true
    → step_to false (file_field ts) ≡ step_by type (entry_of_tokens line in_directory (t ∷ ts))
at_include type line true t ts is = rw is (sym (includes type line (file_field ts)))
at_include type line false t ts is = absurd cc

-- what follows from an equation of steps
pub to_ok : {E : Type 0} (r : Result Step E) (a b : Step) → a ≡ b → IfOk r (λ s. s ≡ a) → IfOk r (λ s. s ≡ b)
to_ok (Ok s) a b same is = is ∙ same
to_ok (Err x) a b same is = tt

-- ---- a rule with a type

pub at_type : (line : ℕ) (in_directory : Bool) (t : Token) (ts : List Token) → (in_directory && is_word (codes "@include") t) ≡ false
    → entry_of_tokens line in_directory (t ∷ ts) ≡ with_type line (type_field_of t) ts
at_type line true t ts isnt = rw isnt refl
at_type line false t ts isnt = refl

own_type : (b : Bool) (line : ℕ) (content : Result RuleContent FaultKind) (type own : RuleType) → same_type type own ≡ b
    → step_by type (entry_at line (Some own) content) ≡ cond b (step_from line content) Nothing
own_type true line (Ok content) type own is = rw is refl
own_type false line (Ok content) type own is = rw is refl
own_type true line (Err kind) type own is = refl
own_type false line (Err kind) type own is = refl

pub of_type : (line : ℕ) (type : RuleType) (field : Option TypeField) (ts : List Token) (step : Step) → is_type type field ≡ true
    → ((silent : Bool) → step ≡ step_from line (after_type silent ts)) → step ≡ step_by type (with_type line field ts)
of_type line type (Some field) ts step is made = made field.silent ∙ sym (own_type true line (after_type field.silent ts) type field.rule_type is)
of_type line type None ts step is made = absurd cc

pub of_type_ok : {E : Type 0} (r : Result Step E) (line : ℕ) (type : RuleType) (in_directory : Bool) (t : Token) (ts : List Token) → (in_directory && is_word (codes "@include") t) ≡ false
    → is_type type (type_field_of t) ≡ true → IfOk r (λ s. (silent : Bool) → s ≡ step_from line (after_type silent ts))
    → IfOk r (λ s. s ≡ step_by type (entry_of_tokens line in_directory (t ∷ ts)))
of_type_ok (Ok s) line type in_directory t ts isnt is made = rw (at_type line in_directory t ts isnt) (of_type line type (type_field_of t) ts s is made)
of_type_ok (Err x) line type in_directory t ts isnt is made = tt

pub of_none : (line : ℕ) (type : RuleType) (field : Option TypeField) (ts : List Token) → is_type type field ≡ false
    → Nothing ≡ step_by type (with_type line field ts)
of_none line type (Some field) ts is = sym (own_type false line (after_type field.silent ts) type field.rule_type is)
of_none line type None ts is = refl

-- ---- whether a rule is one of those that are meant

pub none_ok : (line : ℕ) (type : RuleType) (in_directory : Bool) (t : Token) (ts : List Token) → (in_directory && is_word (codes "@include") t) ≡ false
    → is_type type (type_field_of t) ≡ false → Nothing ≡ step_by type (entry_of_tokens line in_directory (t ∷ ts))
none_ok line type in_directory t ts isnt is = rw (at_type line in_directory t ts isnt) (of_none line type (type_field_of t) ts is)

meant : (type : RuleType) (in_directory : Bool) (line : ℕ) (fields : List Token) (own : List RawRule) (step : Step)
    → GivesFields (Some fields) line own → step ≡ step_by type (entry_of_tokens line in_directory fields)
    → step ≡ step_of_rules type in_directory own
unfolding entry_of
meant type in_directory line fields own step gives is = rw gives is

pub meant_ok : {E : Type 0} (r : Result Step E) (type : RuleType) (in_directory : Bool) (line : ℕ) (fields : List Token) (own : List RawRule)
    → GivesFields (Some fields) line own → IfOk r (λ s. s ≡ step_by type (entry_of_tokens line in_directory fields))
    → IfOk r (λ s. s ≡ step_of_rules type in_directory own)
meant_ok (Ok s) type in_directory line fields own gives is = meant type in_directory line fields own s gives is
meant_ok (Err x) type in_directory line fields own gives is = tt
