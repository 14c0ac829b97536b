-- A printed stack: what its lines mean, and the files of its substacks.
use Rattle.std.proofs.Common.{◌≡◌, ℕ, suc, ◌+◌, ◌-◌, ◌≤◌, true, List, [], ◌∷◌, ◌++◌, length, map, Option, Some, None, Ok, refl, sym, ap, ◌∙◌, subst, arith}
use Rattle.std.specs.List.{list_all}
use Rattle.std.specs.Result.{is_ok}
use Rattle.std.proofs.lemmas.Bool.{and_parts, and_from}
use Rattle.conf_lex.specs.declared.token.RawRule.{RawRule}
use Rattle.conf_lex.specs.Answer.{answer_to}
use Rattle.control_words.specs.Stack.{Stack, none, line, sub, joined}
use Rattle.service_load.specs.declared.rule_type.RuleType.{RuleType}
use Rattle.service_load.specs.Entry.{entry_of}
use Rattle.service_load.specs.Files.{plain_file, FileContent, holds, held, own_rules, rules_held, entries_of, all_fine}
use Rattle.service_load.specs.Order.{Opener, Item, opening, checked, file_items, items}
use Rattle.service_load.specs.Tree.{nodes_of, nodes}
use Rattle.service_print.specs.Tokens.{text_of}
use Rattle.service_print.specs.Printed.{numbered, subs_in, list_lines}
use Rattle.service_print.proofs.Lexed.{Fields, tokens_in, line_text, lines_text, is_sound_line, is_set_line, is_short_line, raw_rules, OneReading, text_answer}
use Rattle.service_print.proofs.Meant.{Meaning, a_line, a_substack, is_meant, meant_nodes, meant_items, nodes_from, items_from}
use Rattle.service_print.proofs.Understood.{AllWritable, rule_tokens, IsLine, rule_is_line, IsServiceName, substack_tokens, in_the_directory, substack_is_line}

-- ---- the lines of a stack

abbrev pub fields_from : RuleType → List ℕ → ℕ → Stack → List Fields
fields_from type service number none = []
fields_from type service number (line rule rest) = rule_tokens type rule ∷ fields_from type service number rest
fields_from type service number (sub inner rest) = substack_tokens type (numbered service number) ∷ fields_from type service (number + 1 + subs_in inner) rest

abbrev pub meanings_from : RuleType → List ℕ → ℕ → Stack → List Meaning
meanings_from type service number none = []
meanings_from type service number (line rule rest) = a_line (Some type) rule ∷ meanings_from type service number rest
meanings_from type service number (sub inner rest) = a_substack (Some type) (in_the_directory (numbered service number)) ∷ meanings_from type service (number + 1 + subs_in inner) rest

-- these fields are written as this line, and mean this
abbrev pub AreLines : List Fields → List (List ℕ) → List Meaning → Type 0
AreLines [] [] [] = Unit {0}
AreLines (fields ∷ more) (text ∷ texts) (meaning ∷ meanings) = IsLine fields text meaning × AreLines more texts meanings
AreLines _ _ _ = ⊥

pub stack_lines : (type : RuleType) (service : List ℕ) (number : ℕ) (stack : Stack) → IsServiceName service → AllWritable stack → number + subs_in stack ≤ 256
    → AreLines (fields_from type service number stack) (list_lines service type number stack) (meanings_from type service number stack)
unfolding list_lines
stack_lines type service number none is writable few = tt
stack_lines type service number (line rule rest) is writable few = (rule_is_line type rule writable.0, stack_lines type service number rest is writable.1 few)
stack_lines type service number (sub inner rest) is writable few =
    (substack_is_line type service number is (omega arith), stack_lines type service (number + 1 + subs_in inner) rest is writable.1 (omega arith))

pub lines-append : (fs gs : List Fields) (ts us : List (List ℕ)) (ms ns : List Meaning) → AreLines fs ts ms → AreLines gs us ns
    → AreLines (fs ++ gs) (ts ++ us) (ms ++ ns)
lines-append [] gs [] us [] ns one other = other
lines-append (f ∷ fs) gs (t ∷ ts) us (m ∷ ms) ns one other = (one.0, lines-append fs gs ts us ms ns one.1 other)
lines-append [] gs [] us (m ∷ ms) ns one other = absurd one
lines-append [] gs (t ∷ ts) us ms ns one other = absurd one
lines-append (f ∷ fs) gs [] us ms ns one other = absurd one
lines-append (f ∷ fs) gs (t ∷ ts) us [] ns one other = absurd one

pub stack_meant : (type : RuleType) (service : List ℕ) (number : ℕ) (stack : Stack) → list_all is_meant (meanings_from type service number stack) ≡ true
stack_meant type service number none = refl
stack_meant type service number (line rule rest) = stack_meant type service number rest
stack_meant type service number (sub inner rest) = stack_meant type service (number + 1 + subs_in inner) rest

-- ---- what lines mean together

abbrev pub meanings_nodes : (List ℕ → Stack) → RuleType → List Meaning → Stack
meanings_nodes deeper type [] = none
meanings_nodes deeper type (meaning ∷ meanings) = joined (meant_nodes deeper type meaning) (meanings_nodes deeper type meanings)

abbrev pub meanings_items : (List ℕ → Option (List ℕ)) → ℕ → RuleType → List ℕ → ℕ → List Meaning → List Item
meanings_items texts levels type name number [] = []
meanings_items texts levels type name number (meaning ∷ meanings) = meant_items texts levels type name number meaning ++ meanings_items texts levels type name (number + 1) meanings

-- these rules mean this
pub record RulesMean (rules : List RawRule) (meanings : List Meaning) (number : ℕ) : Type 0 where
  pub nodes : (deeper : List ℕ → Stack) (type : RuleType) → nodes_from deeper true type rules ≡ meanings_nodes deeper type meanings
  pub items : (texts : List ℕ → Option (List ℕ)) (levels : ℕ) (type : RuleType) (name : List ℕ)
      → items_from texts levels true type name rules ≡ meanings_items texts levels type name number meanings
  pub fine : list_all is_meant meanings ≡ true → all_fine true rules ≡ true

rules_mean : (fs : List Fields) (ts : List (List ℕ)) (ms : List Meaning) (number : ℕ) → AreLines fs ts ms → RulesMean (raw_rules number fs) ms number
rules_mean [] [] [] number are = record { nodes = λ deeper type. refl; items = λ texts levels type name. refl; fine = λ meant. refl }
rules_mean (f ∷ fs) (t ∷ ts) (m ∷ ms) number are =
    let here = are.0.means number in
    let more = rules_mean fs ts ms (number + 1) are.1 in
    record {
      nodes = λ deeper type. here.nodes deeper type (raw_rules (number + 1) fs) ∙ ap (λ (s : Stack). joined (meant_nodes deeper type m) s) (more.nodes deeper type);
      items = λ texts levels type name. here.items texts levels type name (raw_rules (number + 1) fs) ∙ ap (λ (is : List Item). meant_items texts levels type name number m ++ is) (more.items texts levels type name);
      fine = λ meant. let parts = and_parts (is_meant m) (list_all is_meant ms) meant in and_from (is_ok (entry_of true (record { line = number; tokens = tokens_in f }))) (all_fine true (raw_rules (number + 1) fs)) (here.fine ∙ parts.0) (more.fine parts.1);
    }
rules_mean [] [] (m ∷ ms) number are = absurd are
rules_mean [] (t ∷ ts) ms number are = absurd are
rules_mean (f ∷ fs) [] ms number are = absurd are
rules_mean (f ∷ fs) (t ∷ ts) [] number are = absurd are

lines_written : (fs : List Fields) (ts : List (List ℕ)) (ms : List Meaning) → AreLines fs ts ms → map line_text fs ≡ ts
lines_written [] [] [] are = refl
lines_written (f ∷ fs) (t ∷ ts) (m ∷ ms) are = rw (are.0.writes, lines_written fs ts ms are.1) refl
lines_written [] [] (m ∷ ms) are = absurd are
lines_written [] (t ∷ ts) ms are = absurd are
lines_written (f ∷ fs) [] ms are = absurd are
lines_written (f ∷ fs) (t ∷ ts) [] are = absurd are

pub lines_sound : (fs : List Fields) (ts : List (List ℕ)) (ms : List Meaning) → AreLines fs ts ms → list_all is_sound_line fs ≡ true
lines_sound [] [] [] are = refl
lines_sound (f ∷ fs) (t ∷ ts) (m ∷ ms) are = and_from (is_sound_line f) (list_all is_sound_line fs) are.0.sound (lines_sound fs ts ms are.1)
lines_sound [] [] (m ∷ ms) are = absurd are
lines_sound [] (t ∷ ts) ms are = absurd are
lines_sound (f ∷ fs) [] ms are = absurd are
lines_sound (f ∷ fs) (t ∷ ts) [] are = absurd are

lines_set : (fs : List Fields) (ts : List (List ℕ)) (ms : List Meaning) → AreLines fs ts ms → list_all is_set_line fs ≡ true
lines_set [] [] [] are = refl
lines_set (f ∷ fs) (t ∷ ts) (m ∷ ms) are = and_from (is_set_line f) (list_all is_set_line fs) are.0.set (lines_set fs ts ms are.1)
lines_set [] [] (m ∷ ms) are = absurd are
lines_set [] (t ∷ ts) ms are = absurd are
lines_set (f ∷ fs) [] ms are = absurd are
lines_set (f ∷ fs) (t ∷ ts) [] are = absurd are

pub lines_text_is : (fs : List Fields) (ts : List (List ℕ)) (ms : List Meaning) → AreLines fs ts ms → lines_text fs ≡ text_of ts
lines_text_is fs ts ms are = ap text_of (lines_written fs ts ms are)

-- ---- a file of such lines

own_all : (rules : List RawRule) → own_rules None rules ≡ rules
own_all [] = refl
own_all (rule ∷ rules) = ap (λ (rs : List RawRule). rule ∷ rs) (own_all rules)

-- a file holds rules that mean this
pub record IsFile (texts : List ℕ → Option (List ℕ)) (name : List ℕ) (meanings : List Meaning) : Type 0 where
  pub rules : List RawRule
  pub held_is : held texts (plain_file name) ≡ holds rules
  pub mean : RulesMean rules meanings 1
  pub meant : list_all is_meant meanings ≡ true

pub is_file : OneReading → (texts : List ℕ → Option (List ℕ)) (name : List ℕ) (fs : List Fields) (ts : List (List ℕ)) (ms : List Meaning)
    → AreLines fs ts ms → list_all is_meant ms ≡ true
    → list_all is_short_line fs ≡ true → length (text_of ts) ≤ 65536 → texts name ≡ Some (text_of ts) → IsFile texts name ms
is_file only texts name fs ts ms are meant short few there =
    let same = lines_text_is fs ts ms are in
    let fits : length (lines_text fs) ≤ 65536 = subst (λ (t : List ℕ). length t ≤ 65536) (sym same) few in
    let answer : answer_to (text_of ts) ≡ Ok (raw_rules 1 fs) = ap answer_to (sym same) ∙ text_answer only fs (lines_sound fs ts ms are) (lines_set fs ts ms are) short fits in
    record {
      rules = raw_rules 1 fs;
      held_is = rw (there, answer) (ap holds (own_all (raw_rules 1 fs)));
      mean = rules_mean fs ts ms 1 are;
      meant = meant;
    }

pub file_nodes : (texts : List ℕ → Option (List ℕ)) (levels : ℕ) (type : RuleType) (name : List ℕ) (meanings : List Meaning) → IsFile texts name meanings
    → nodes texts (suc levels) type (plain_file name) ≡ meanings_nodes (λ n. nodes texts levels type (plain_file n)) type meanings
unfolding nodes
file_nodes texts levels type name meanings is =
    ap (λ (h : FileContent). nodes_of (λ n. nodes texts levels type (plain_file n)) type (entries_of true (rules_held h))) is.held_is ∙ is.mean.nodes (λ n. nodes texts levels type (plain_file n)) type

pub file_met : (texts : List ℕ → Option (List ℕ)) (levels : ℕ) (type : RuleType) (opener : Opener) (name : List ℕ) (meanings : List Meaning) (is : IsFile texts name meanings)
    → items texts (suc levels) type opener (plain_file name) ≡ opening (plain_file name) (16 - levels) opener ∷ (map (checked (plain_file name)) is.rules ++ meanings_items texts levels type name 1 meanings)
unfolding items
file_met texts levels type opener name meanings is =
    ap (λ (h : FileContent). opening (plain_file name) (16 - levels) opener ∷ file_items (items texts levels type) type (plain_file name) (rules_held h)) is.held_is
    ∙ rw (is.mean.fine is.meant, is.mean.items texts levels type name) refl
