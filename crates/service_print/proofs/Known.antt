-- What a rule of a text means, and that the lines of a loaded stack can be printed.
use Rattle.std.proofs.Common.{◌≡◌, ℕ, zero, suc, ◌≤◌, Bool, true, false, not, ◌&&◌, cond, eqb, nat_le, List, [], ◌∷◌, length, map, Option, Some, None, Result, Ok, Err, refl, sym, ap, ◌∙◌, subst, arith, inl, inr}
use Rattle.std.specs.Prelude.{codes, option_map}
use Rattle.std.specs.Char.{is_ascii_digit}
use Rattle.std.specs.List.{filter_map, list_all, last_or, filter}
use Rattle.std.specs.Option.{option_and_then, option_or, unwrap_or, ok_or}
use Rattle.std.specs.Result.{result_ok}
use Rattle.std.specs.Str.{str_eq_ignore_ascii_case}
use Rattle.std.proofs.lemmas.Bool.{cases_Bool, and_parts, and_from, eqb-false, eqb-true, le-leb}
use Rattle.std.proofs.lemmas.List.Folds.{list_all-append}
use Rattle.pam_base.specs.Code.{all_codes}
use Rattle.pam_base.specs.Number.{value_of_digits}
use Rattle.pam_base.specs.declared.code.Code.{Code}
use Rattle.pam_base.specs.declared.fault.FaultKind.{FaultKind}
use Rattle.pam_base.specs.declared.fault.FaultKind.TheVariants.{BadAction, BadControl, MissingField}
use Rattle.conf_lex.specs.declared.token.Token.{Token}
use Rattle.conf_lex.specs.declared.token.RawRule.{RawRule}
use Rattle.conf_lex.specs.declared.token.LexFault.{LexFault}
use Rattle.conf_lex.specs.Answer.{answer_to}
use Rattle.control_words.specs.declared.bracket.ControlFault.{ControlFault}
use Rattle.control_words.specs.declared.control.Action.{Action}
use Rattle.control_words.specs.declared.control.Action.TheVariants as actions
use Rattle.control_words.specs.Bracket.{fault, named_action, jump_of, action_of_word, is_default, names, last_action, action_among, fault_of_entry, control_unless, control_of}
use Rattle.control_words.specs.Entries.{entries_in}
use Rattle.control_words.specs.Entries.{ControlPair as ControlEntry}
use Rattle.control_words.specs.declared.keywords.Keyword.TheVariants.{Required, Requisite, Sufficient, Optional}
use Rattle.control_words.specs.Keyword.{control_of_word, keyword_control as control_of_keyword}
use Rattle.control_words.specs.Stack.{Stack, none, line, sub, joined}
use Rattle.service_load.specs.declared.rule_type.RuleType.{RuleType}
use Rattle.service_load.specs.Entry.{named_file, with_control, after_type, entry_at, with_type, entry_of}
use Rattle.service_load.specs.Files.{plain_file, rule_without, own_rules, held_in_conf, held_for, held_answer, held_text, held, rules_held, is_in_directory}
use Rattle.service_load.specs.RuleType.{is_word, type_field_of}
use Rattle.service_load.specs.Tree.{serves, nodes}
use Rattle.service_print.proofs.Actions.{is_fine}
use Rattle.service_print.proofs.Meant.{Meaning, nothing, a_line, an_include, a_substack, meant_nodes, nodes_from, IsMeant}
use Rattle.service_print.proofs.Fielded.{can_stand}
use Rattle.service_print.proofs.Understood.{can_stand_all, IsWritable, AllWritable}
use Rattle.service_print.proofs.Taken.{Reading, is_good, good_rule, text_good}

-- ---- controls

cond_all : {A : Type 0} (test : A → Bool) (b : Bool) (x y : A) → test x ≡ true → test y ≡ true → test (cond b x y) ≡ true
cond_all test true x y one other = one
cond_all test false x y one other = other

abbrev fine_option : Option Action → Bool
fine_option None = true
fine_option (Some action) = is_fine action

abbrev fine_result : Result Action ControlFault → Bool
fine_result (Ok action) = is_fine action
fine_result (Err why) = true

six_fine : (a b c d e f : Bool)
    → fine_option (cond a (Some actions.Ignore) (cond b (Some actions.Bad) (cond c (Some actions.Die) (cond d (Some actions.Ok) (cond e (Some actions.Done) (cond f (Some actions.Reset) None)))))) ≡ true
six_fine true b c d e f = refl
six_fine false true c d e f = refl
six_fine false false true d e f = refl
six_fine false false false true e f = refl
six_fine false false false false true f = refl
six_fine false false false false false true = refl
six_fine false false false false false false = refl

named_fine : (word : List ℕ) → fine_option (named_action word) ≡ true
named_fine word =
    let is = str_eq_ignore_ascii_case word in
    six_fine (is (codes "ignore")) (is (codes "bad")) (is (codes "die")) (is (codes "ok")) (is (codes "done")) (is (codes "reset"))

some : (n : ℕ) → (n ≡ 0 → ⊥) → 1 ≤ n
some n other = omega arith

jump_fine : (n : ℕ) → fine_result (jump_of n) ≡ true
jump_fine n =
    elim (cases_Bool (eqb n 0)) [
      | inl y ↦ rw y refl
      | inr m ↦ elim (cases_Bool (nat_le n 255)) [
        | inl y ↦ rw (m, y) (and_from (nat_le 1 n) (nat_le n 255) (le-leb 1 n (some n (eqb-false n 0 m))) y)
        | inr k ↦ rw (m, k) refl
      ]
    ]

word_fine : (word : List ℕ) (named : Option Action) (rest : Result Action ControlFault) → fine_option named ≡ true → fine_result rest ≡ true
    → fine_result (elim named [ Some action ↦ Ok action | None ↦ rest ]) ≡ true
word_fine word None rest one other = other
word_fine word (Some action) rest one other = one

action_fine : (word : List ℕ) → fine_result (action_of_word word) ≡ true
action_fine word =
    let is_number = not (eqb (length word) 0) && list_all is_ascii_digit word in
    word_fine word (named_action word) (cond is_number (jump_of (value_of_digits word)) (Err (fault BadAction))) (named_fine word)
    (cond_all fine_result is_number (jump_of (value_of_digits word)) (Err (fault BadAction)) (jump_fine (value_of_digits word)) refl)

result_fine : (result : Result Action ControlFault) → fine_result result ≡ true → fine_option (result_ok result) ≡ true
result_fine (Ok action) fine = fine
result_fine (Err why) fine = refl

found_fine : (found : Option ControlEntry) → fine_option (option_and_then (λ (entry : ControlEntry). result_ok (action_of_word entry.action)) found) ≡ true
found_fine None = refl
found_fine (Some entry) = result_fine (action_of_word entry.action) (action_fine entry.action)

last_fine : (test : List ℕ → Bool) (entries : List ControlEntry) → fine_option (last_action test entries) ≡ true
last_fine test entries = found_fine (last_or None (filter (λ (entry : ControlEntry). test entry.name) entries))

either_fine : (one other : Option Action) → fine_option one ≡ true → fine_option other ≡ true → is_fine (unwrap_or (option_or one other) actions.Bad) ≡ true
either_fine (Some action) other fine fine' = fine
either_fine None (Some action) fine fine' = fine'
either_fine None None fine fine' = refl

among_fine : (entries : List ControlEntry) (codes : List Code) → list_all is_fine (map (action_among entries) codes) ≡ true
among_fine entries [] = refl
among_fine entries (code ∷ codes) =
    and_from (is_fine (action_among entries code)) (list_all is_fine (map (action_among entries) codes))
    (either_fine (last_action (names code) entries) (last_action is_default entries) (last_fine (names code) entries) (last_fine is_default entries)) (among_fine entries codes)

-- what is known of a control that was read
pub record IsControl (control : List Action) : Type 0 where
  pub each : length control ≡ 32
  pub fine : list_all is_fine control ≡ true

unless_control : (faults : List ControlFault) (entries : List ControlEntry) (control : List Action) → control_unless faults entries ≡ Ok control
    → IsControl control
unless_control [] entries control is =
    let same : map (action_among entries) all_codes ≡ control = cc in
    record { each = ap length (sym same); fine = ap (list_all is_fine) (sym same) ∙ among_fine entries all_codes }
unless_control (first ∷ faults) entries control is = absurd cc

abbrev is_control : Option (List Action) → Bool
is_control None = true
is_control (Some control) = eqb (length control) 32 && list_all is_fine control

four_controls : (a b c d : Bool)
    → is_control (option_map control_of_keyword (cond a (Some Required) (cond b (Some Requisite) (cond c (Some Sufficient) (cond d (Some Optional) None))))) ≡ true
four_controls true b c d = refl
four_controls false true c d = refl
four_controls false false true d = refl
four_controls false false false true = refl
four_controls false false false false = refl

keyword_control : (word : List ℕ) → is_control (control_of_word word) ≡ true
keyword_control word =
    let is = str_eq_ignore_ascii_case word in
    four_controls (is (codes "required")) (is (codes "requisite")) (is (codes "sufficient")) (is (codes "optional"))

some_control : (o : Option (List Action)) (why : ControlFault) (control : List Action) → is_control o ≡ true → ok_or o why ≡ Ok control → IsControl control
some_control None why control is read = absurd cc
some_control (Some found) why control is read =
    let same : found ≡ control = cc in
    let parts = and_parts (eqb (length found) 32) (list_all is_fine found) is in
    record { each = ap length (sym same) ∙ eqb-true (length found) 32 parts.0; fine = ap (list_all is_fine) (sym same) ∙ parts.1 }

pub control_read : (bracketed : Bool) (text : List ℕ) (control : List Action) → control_of bracketed text ≡ Ok control → IsControl control
control_read true text control read = unless_control (filter_map fault_of_entry (entries_in text)) (entries_in text) control read
control_read false text control read = some_control (control_of_word text) (fault BadControl) control (keyword_control text) read

-- ---- rules

-- a line that was asked for can be printed
abbrev pub Writes : Meaning → Type 0
Writes (a_line own rule) = IsWritable rule
Writes meaning = Unit {0}

-- what a rule means
pub record Known (in_directory : Bool) (rule : RawRule) : Type 0 where
  pub meaning : Meaning
  pub meant : IsMeant in_directory rule meaning
  pub writes : Writes meaning

at_fault : (in_directory : Bool) (rule : RawRule) (kind : FaultKind) → entry_of in_directory rule ≡ Err kind → Known in_directory rule
at_fault in_directory rule kind read = record {
  meaning = nothing;
  meant = record {
    nodes = λ deeper type rules. rw read refl;
    items = λ texts levels type name rules. rw read refl;
    fine = rw read refl;
  };
  writes = tt;
}

good_texts : (tokens : List Token) → list_all is_good tokens ≡ true → can_stand_all (map (λ (t : Token). t.text) tokens) ≡ true
good_texts [] good = refl
good_texts (token ∷ tokens) good =
    let parts = and_parts (is_good token) (list_all is_good tokens) good in
    and_from (can_stand token.text) (can_stand_all (map (λ (t : Token). t.text) tokens)) parts.0 (good_texts tokens parts.1)

known_module : (in_directory : Bool) (rule : RawRule) (own : Option RuleType) (silent : Bool) (control : List Action) (tokens : List Token)
    → IsControl control → list_all is_good tokens ≡ true
    → entry_of in_directory rule ≡ entry_at rule.line own (with_control silent (Ok control) tokens) → Known in_directory rule
known_module in_directory rule own silent control [] is good read = at_fault in_directory rule _ read
known_module in_directory rule own silent control (token ∷ tokens) is good read =
    let parts = and_parts (is_good token) (list_all is_good tokens) good in
    record {
      meaning = a_line own (record { silent = silent; control = control; path = token.text; args = map (λ (t : Token). t.text) tokens });
      meant = record {
        nodes = λ deeper type rules. rw read refl;
        items = λ texts levels type name rules. rw read refl;
        fine = rw read refl;
      };
      writes = record { each = is.each; fine = is.fine; path = parts.0; args = good_texts tokens parts.1 };
    }

known_control : (in_directory : Bool) (rule : RawRule) (own : Option RuleType) (silent bracketed : Bool) (text : List ℕ) (control : Result (List Action) ControlFault) (tokens : List Token)
    → control_of bracketed text ≡ control
    → list_all is_good tokens ≡ true → entry_of in_directory rule ≡ entry_at rule.line own (with_control silent control tokens) → Known in_directory rule
known_control in_directory rule own silent bracketed text (Ok control) tokens reads good read = known_module in_directory rule own silent control tokens (control_read bracketed text control reads) good read
known_control in_directory rule own silent bracketed text (Err why) tokens reads good read = at_fault in_directory rule _ read

known_type : (in_directory : Bool) (rule : RawRule) (own : Option RuleType) (silent : Bool) (tokens : List Token) → list_all is_good tokens ≡ true
    → entry_of in_directory rule ≡ entry_at rule.line own (after_type silent tokens) → Known in_directory rule
known_type in_directory rule own silent [] good read = at_fault in_directory rule _ read
known_type in_directory rule own silent (token ∷ []) good read =
    elim (cases_Bool (is_word (codes "include") token)) [
      | inl y ↦ at_fault in_directory rule MissingField (rw y at read)
      | inr n ↦ elim (cases_Bool (is_word (codes "substack") token)) [
        | inl y ↦ at_fault in_directory rule MissingField (rw (n, y) at read)
        | inr m ↦ known_control in_directory rule own silent token.bracketed token.text (control_of token.bracketed token.text) [] refl refl (rw (n, m) at read)
      ]
    ]
known_type in_directory rule own silent (token ∷ next ∷ more) good read =
    elim (cases_Bool (is_word (codes "include") token)) [
      | inl y ↦
          (let says = rw y at read in
          record {
            meaning = an_include own (named_file next.text);
            meant = record {
              nodes = λ deeper type rules. rw says refl;
              items = λ texts levels type name rules. rw says refl;
              fine = rw says refl;
            };
            writes = tt;
          })
      | inr n ↦ elim (cases_Bool (is_word (codes "substack") token)) [
        | inl y ↦
            (let says = rw (n, y) at read in
            record {
              meaning = a_substack own (named_file next.text);
              meant = record {
                nodes = λ deeper type rules. rw says refl;
                items = λ texts levels type name rules. rw says refl;
                fine = rw says refl;
              };
              writes = tt;
            })
        | inr m ↦ known_control in_directory rule own silent token.bracketed token.text (control_of token.bracketed token.text) (next ∷ more) refl (and_parts (is_good token) (list_all is_good (next ∷ more)) good).1 (rw (n, m) at read)
      ]
    ]

known_field : (in_directory : Bool) (rule : RawRule) (token : Token) (tokens : List Token) (field : Option _) → list_all is_good tokens ≡ true
    → entry_of in_directory rule ≡ with_type rule.line field tokens → Known in_directory rule
known_field in_directory rule token tokens None good read = at_fault in_directory rule _ read
known_field in_directory rule token tokens (Some field) good read = known_type in_directory rule (Some field.rule_type) field.silent tokens good read

-- Debian's addition
known_debian : (rule : RawRule) (tokens : List Token) → list_all is_good tokens ≡ true → (token : Token) → rule.tokens ≡ token ∷ tokens
    → is_word (codes "@include") token ≡ true → Known true rule
unfolding entry_of
known_debian rule [] good token is word =
    let read : entry_of true rule ≡ Err MissingField = rw (is, word) refl in
    at_fault true rule MissingField read
known_debian rule (next ∷ more) good token is word = record {
  meaning = an_include None (named_file next.text);
  meant = record {
    nodes = λ deeper type rules. rw (is, word) refl;
    items = λ texts levels type name rules. rw (is, word) refl;
    fine = rw (is, word) refl;
  };
  writes = tt;
}

known_tokens : (in_directory : Bool) (rule : RawRule) (tokens : List Token) → rule.tokens ≡ tokens → list_all is_good tokens ≡ true → Known in_directory rule
unfolding entry_of
known_tokens true rule [] is good = at_fault true rule MissingField (rw is refl)
known_tokens false rule [] is good = at_fault false rule MissingField (rw is refl)
known_tokens false rule (token ∷ tokens) is good = known_field false rule token tokens (type_field_of token) (and_parts (is_good token) (list_all is_good tokens) good).1 (rw is refl)
known_tokens true rule (token ∷ tokens) is good =
    elim (cases_Bool (is_word (codes "@include") token)) [
      | inl y ↦ known_debian rule tokens (and_parts (is_good token) (list_all is_good tokens) good).1 token is y
      | inr n ↦ known_field true rule token tokens (type_field_of token) (and_parts (is_good token) (list_all is_good tokens) good).1 (rw (is, n) refl)
    ]

pub known : (in_directory : Bool) (rule : RawRule) → good_rule rule ≡ true → Known in_directory rule
known in_directory rule good = known_tokens in_directory rule rule.tokens refl good

-- ---- files

own_good : (service : List ℕ) (number : ℕ) (tokens : List Token) → list_all is_good tokens ≡ true
    → list_all good_rule (rule_without service number tokens) ≡ true
own_good service number [] good = refl
own_good service number (token ∷ tokens) good =
    let more = (and_parts (is_good token) (list_all is_good tokens) good).1 in
    elim (cases_Bool (is_word service token)) [ inl y ↦ rw y (and_from (list_all is_good tokens) true more refl) | inr n ↦ rw n refl ]

owns_good : (service : Option (List ℕ)) (rules : List RawRule) → list_all good_rule rules ≡ true → list_all good_rule (own_rules service rules) ≡ true
owns_good service [] good = refl
owns_good None (rule ∷ rules) good =
    let parts = and_parts (good_rule rule) (list_all good_rule rules) good in
    and_from (good_rule rule) (list_all good_rule (own_rules None rules)) parts.0 (owns_good None rules parts.1)
owns_good (Some service) (rule ∷ rules) good =
    let parts = and_parts (good_rule rule) (list_all good_rule rules) good in
    list_all-append good_rule (rule_without service rule.line rule.tokens) (own_rules (Some service) rules)
    ∙ and_from (list_all good_rule (rule_without service rule.line rule.tokens)) (list_all good_rule (own_rules (Some service) rules)) (own_good service rule.line rule.tokens parts.0) (owns_good (Some service) rules parts.1)

conf_good : (rules : List RawRule) → list_all good_rule rules ≡ true → list_all good_rule (rules_held (held_in_conf rules)) ≡ true
conf_good [] good = refl
conf_good (rule ∷ rules) good = good

for_good : (service : Option (List ℕ)) (rules : List RawRule) → list_all good_rule rules ≡ true
    → list_all good_rule (rules_held (held_for service rules)) ≡ true
for_good None rules good = owns_good None rules good
for_good (Some service) rules good = conf_good (own_rules (Some service) rules) (owns_good (Some service) rules good)

answer_good : Reading → (service : Option (List ℕ)) (text : List ℕ) (answer : Result (List RawRule) LexFault) → answer_to text ≡ answer
    → list_all good_rule (rules_held (held_answer service answer)) ≡ true
answer_good reading service text (Ok rules) is = for_good service rules (text_good reading text rules is)
answer_good reading service text (Err why) is = refl

pub held_good : Reading → (service text : Option (List ℕ)) → list_all good_rule (rules_held (held_text service text)) ≡ true
held_good reading service None = refl
held_good reading service (Some text) = answer_good reading service text (answer_to text) refl

-- ---- stacks

joined_writable : (a b : Stack) → AllWritable a → AllWritable b → AllWritable (joined a b)
joined_writable none b one other = other
joined_writable (line rule rest) b one other = (one.0, joined_writable rest b one.1 other)
joined_writable (sub inner rest) b one other = (one.0, joined_writable rest b one.1 other)

meant_writable : (deeper : List ℕ → Stack) → ((name : List ℕ) → AllWritable (deeper name)) → (type : RuleType) (meaning : Meaning) → Writes meaning
    → AllWritable (meant_nodes deeper type meaning)
meant_writable deeper each type nothing writes = tt
meant_writable deeper each type (a_line own rule) writes = elim (serves type own) as (λ (b : Bool). AllWritable (cond b (line rule none) none)) [ true ↦ (writes, tt) | false ↦ tt ]
meant_writable deeper each type (an_include own file) writes = elim (serves type own) as (λ (b : Bool). AllWritable (cond b (deeper file) none)) [ true ↦ each file | false ↦ tt ]
meant_writable deeper each type (a_substack own file) writes = elim (serves type own) as (λ (b : Bool). AllWritable (cond b (sub (deeper file) none) none)) [ true ↦ (each file, tt) | false ↦ tt ]

rules_writable : (deeper : List ℕ → Stack) → ((name : List ℕ) → AllWritable (deeper name))
    → (in_directory : Bool) (type : RuleType) (rules : List RawRule) → list_all good_rule rules ≡ true
    → AllWritable (nodes_from deeper in_directory type rules)
rules_writable deeper each in_directory type [] good = tt
rules_writable deeper each in_directory type (rule ∷ rules) good =
    let parts = and_parts (good_rule rule) (list_all good_rule rules) good in
    let is = known in_directory rule parts.0 in
    subst AllWritable (sym (is.meant.nodes deeper type rules))
    (joined_writable (meant_nodes deeper type is.meaning) (nodes_from deeper in_directory type rules) (meant_writable deeper each type is.meaning is.writes) (rules_writable deeper each in_directory type rules parts.1))

-- the lines of a file can be printed
pub nodes_writable : Reading → (texts : List ℕ → Option (List ℕ)) (levels : ℕ) (type : RuleType) (file : _) → AllWritable (nodes texts levels type file)
unfolding nodes
nodes_writable reading texts zero type file = tt
nodes_writable reading texts (suc levels) type file =
    rules_writable (λ name. nodes texts levels type (plain_file name)) (λ name. nodes_writable reading texts levels type (plain_file name)) (is_in_directory file) type (rules_held (held texts file)) (held_good reading file.service (texts file.name))
