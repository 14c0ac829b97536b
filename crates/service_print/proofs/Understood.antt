-- The rules of printed lines mean what was printed.
use Rattle.std.proofs.Common.{◌≡◌, ℕ, ◌<◌, Bool, true, false, List, [], ◌∷◌, ◌++◌, length, map, Some, refl, sym, ap, ◌∙◌}
use Rattle.std.specs.Prelude.{codes, decimal}
use Rattle.std.specs.Fmt.{digits}
use Rattle.std.specs.List.{list_all}
use Rattle.std.proofs.lemmas.Bool.{and_parts, and_from, agree_below_at}
use Rattle.std.proofs.lemmas.List.Folds.{list_all-append}
use Rattle.pam_base.specs.ServiceName.{is_name_byte}
use Rattle.conf_lex.specs.declared.token.Token.{Token}
use Rattle.control_words.specs.declared.nodes.Rule.{Rule}
use Rattle.control_words.specs.Stack.{Stack, none, line, sub}
use Rattle.service_load.specs.declared.rule_type.RuleType.{RuleType}
use Rattle.service_load.specs.Entry.{named_file, entry_of}
use Rattle.service_print.specs.Tokens.{token_text}
use Rattle.service_print.specs.Printed.{type_field, rule_line, substack_line, numbered}
use Rattle.service_print.proofs.Spelled.{is_plain_text, is_sound, written}
use Rattle.service_print.proofs.Lexed.{Fields, tokens_in, line_text, is_sound_line, is_set, is_set_line, all_bytes}
use Rattle.service_print.proofs.Actions.{is_fine}
use Rattle.service_print.proofs.Meant.{Meaning, a_line, a_substack, IsMeant}
use Rattle.service_print.proofs.Fielded.{apart, weaken, IsPlainTest, plain_text_by, set_by, control_token, control_token_is, plain_token, type_token_is, can_stand, text_token, text_token_is}

-- ---- what is known of a rule that can be printed

abbrev pub can_stand_all : List (List ℕ) → Bool
can_stand_all texts = list_all can_stand texts

pub record IsWritable (rule : Rule) : Type 0 where
  pub each : length rule.control ≡ 32
  pub fine : list_all is_fine rule.control ≡ true
  pub path : can_stand rule.path ≡ true
  pub args : can_stand_all rule.args ≡ true

-- each rule of a stack
abbrev pub AllWritable : Stack → Type 0
AllWritable none = Unit {0}
AllWritable (line rule rest) = IsWritable rule × AllWritable rest
AllWritable (sub inner rest) = AllWritable inner × AllWritable rest

-- ---- a rule

abbrev pub rule_tokens : RuleType → Rule → Fields
rule_tokens type rule = record { first = plain_token (type_field rule.silent type); more = control_token rule.control ∷ text_token rule.path ∷ map text_token rule.args }

text_tokens_written : (texts : List (List ℕ)) → can_stand_all texts ≡ true → map written (map text_token texts) ≡ map token_text texts
text_tokens_written [] can = refl
text_tokens_written (text ∷ texts) can =
    let parts = and_parts (can_stand text) (can_stand_all texts) can in
    rw ((text_token_is text parts.0).writes, text_tokens_written texts parts.1) refl

text_tokens_sound : (texts : List (List ℕ)) → can_stand_all texts ≡ true → list_all is_sound (map text_token texts) ≡ true
text_tokens_sound [] can = refl
text_tokens_sound (text ∷ texts) can =
    let parts = and_parts (can_stand text) (can_stand_all texts) can in
    and_from (is_sound (text_token text)) (list_all is_sound (map text_token texts)) (text_token_is text parts.0).sound (text_tokens_sound texts parts.1)

text_tokens_set : (texts : List (List ℕ)) → can_stand_all texts ≡ true → list_all (all_bytes is_set) (map text_token texts) ≡ true
text_tokens_set [] can = refl
text_tokens_set (text ∷ texts) can =
    let parts = and_parts (can_stand text) (can_stand_all texts) can in
    and_from (list_all is_set text) (list_all (all_bytes is_set) (map text_token texts)) (text_token_is text parts.0).set (text_tokens_set texts parts.1)

text_tokens_read : (texts : List (List ℕ)) → map (λ (t : Token). t.text) (map text_token texts) ≡ texts
text_tokens_read [] = refl
text_tokens_read (text ∷ texts) = ap (λ (ts : List (List ℕ)). text ∷ ts) (text_tokens_read texts)

-- what has to hold for the fields of a line: they are written as the line, and mean this
pub record IsLine (fields : Fields) (text : List ℕ) (meaning : Meaning) : Type 0 where
  pub writes : line_text fields ≡ text
  pub sound : is_sound_line fields ≡ true
  pub set : is_set_line fields ≡ true
  pub means : (number : ℕ) → IsMeant true (record { line = number; tokens = tokens_in fields }) meaning

rule_written : (type : RuleType) (rule : Rule) → IsWritable rule → line_text (rule_tokens type rule) ≡ rule_line type rule
unfolding rule_line
rule_written type rule is =
    let control = control_token_is rule.control is.each is.fine in
    rw (control.writes, (text_token_is rule.path is.path).writes, text_tokens_written rule.args is.args) refl

rule_means : (type : RuleType) (rule : Rule) (number : ℕ) → IsWritable rule
    → IsMeant true (record { line = number; tokens = tokens_in (rule_tokens type rule) }) (a_line (Some type) rule)
unfolding entry_of
rule_means type rule number is =
    let first = type_token_is rule.silent type in
    let control = control_token_is rule.control is.each is.fine in
    record {
      nodes = λ deeper own rules. rw (first.no_include, first.reads, control.no_include, control.no_substack, control.reads, text_tokens_read rule.args) refl;
      items = λ texts levels own name rules. rw (first.no_include, first.reads, control.no_include, control.no_substack, control.reads) refl;
      fine = rw (first.no_include, first.reads, control.no_include, control.no_substack, control.reads) refl;
    }

pub rule_is_line : (type : RuleType) (rule : Rule) → IsWritable rule → IsLine (rule_tokens type rule) (rule_line type rule) (a_line (Some type) rule)
rule_is_line type rule is =
    let first = type_token_is rule.silent type in
    let control = control_token_is rule.control is.each is.fine in
    let path = text_token_is rule.path is.path in
    record {
      writes = rule_written type rule is;
      sound = rw (first.sound, control.sound, path.sound) (text_tokens_sound rule.args is.args);
      set = rw (first.set, control.set, path.set) (text_tokens_set rule.args is.args);
      means = λ number. rule_means type rule number is;
    }

-- ---- a substack

-- what is known of a service's name
pub record IsServiceName (service : List ℕ) : Type 0 where
  pub bytes : list_all is_name_byte service ≡ true
  pub first : ℕ
  pub more : List ℕ
  pub some : service ≡ first ∷ more

digits_named : (number : ℕ) → number < 256 → list_all is_name_byte (decimal number) ≡ true
unfolding digits
digits_named number few = agree_below_at (λ n. list_all is_name_byte (decimal n)) (λ n. true) 256 number refl few

pub numbered_bytes : (service : List ℕ) (number : ℕ) → IsServiceName service → number < 256 → list_all is_name_byte (numbered service number) ≡ true
unfolding numbered
numbered_bytes service number is few =
    list_all-append is_name_byte service (46 ∷ decimal number) ∙ and_from (list_all is_name_byte service) (list_all is_name_byte (46 ∷ decimal number)) is.bytes (digits_named number few)

numbered_some : (service : List ℕ) (number : ℕ) (is : IsServiceName service) → numbered service number ≡ is.first ∷ (is.more ++ 46 ∷ decimal number)
unfolding numbered
numbered_some service number is = ap (λ (t : List ℕ). t ++ 46 ∷ decimal number) is.some

name_plain : IsPlainTest is_name_byte
name_plain = record { space = refl; tab = refl; return = refl; hash = refl; newline = refl }

abbrev pub substack_tokens : RuleType → List ℕ → Fields
substack_tokens type name = record { first = plain_token (type_field false type); more = plain_token (codes "substack") ∷ plain_token name ∷ [] }

-- the name of a file in the directory (pam.d(5))
abbrev pub in_the_directory : List ℕ → List ℕ
in_the_directory name = codes "/etc/pam.d/" ++ name

named_plain : (name : List ℕ) (first : ℕ) (more : List ℕ) → list_all is_name_byte name ≡ true → name ≡ first ∷ more → named_file name ≡ in_the_directory name
named_plain name first more bytes is =
    let here = (and_parts (is_name_byte first) (list_all is_name_byte more) (ap (list_all is_name_byte) (sym is) ∙ bytes)).0 in
    rw is (rw (apart is_name_byte first 47 refl here) refl)

substack_written : (type : RuleType) (name : List ℕ) → line_text (substack_tokens type name) ≡ substack_line type name
unfolding substack_line
substack_written type name = refl

substack_means : (type : RuleType) (name : List ℕ) (number : ℕ) → named_file name ≡ in_the_directory name
    → IsMeant true (record { line = number; tokens = tokens_in (substack_tokens type name) }) (a_substack (Some type) (in_the_directory name))
unfolding entry_of
substack_means type name number named =
    let first = type_token_is false type in
    record {
      nodes = λ deeper own rules. rw (first.no_include, first.reads, ← named) refl;
      items = λ texts levels own file rules. rw (first.no_include, first.reads, ← named) refl;
      fine = rw (first.no_include, first.reads) refl;
    }

pub substack_is_line : (type : RuleType) (service : List ℕ) (number : ℕ) → IsServiceName service → number < 256
    → IsLine (substack_tokens type (numbered service number)) (substack_line type (numbered service number)) (a_substack (Some type) (in_the_directory (numbered service number)))
substack_is_line type service number is few =
    let name = numbered service number in
    let bytes = numbered_bytes service number is few in
    let some = numbered_some service number is in
    let more = is.more ++ 46 ∷ decimal number in
    let plain : is_plain_text name ≡ true = ap is_plain_text some ∙ plain_text_by is_name_byte name_plain refl is.first more (ap (list_all is_name_byte) (sym some) ∙ bytes) in
    let set : list_all is_set name ≡ true = weaken is_name_byte is_set (set_by is_name_byte refl) name bytes in
    record {
      writes = substack_written type name;
      sound = rw ((type_token_is false type).sound, plain) refl;
      set = rw ((type_token_is false type).set, set) refl;
      means = λ line_number. substack_means type name line_number (named_plain name is.first more bytes some);
    }
