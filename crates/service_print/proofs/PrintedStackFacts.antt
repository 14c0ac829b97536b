-- If the files of its substacks exist, a printed stack loads to itself, and its load meets no
-- fault.
use Rattle.std.proofs.Common.{◌≡◌, ℕ, zero, suc, ◌+◌, ◌-◌, ◌≤◌, ◌<◌, true, false, nat_lt, ◌^◌, List, [], ◌∷◌, ◌++◌, map, Option, Result, Ok, Err, refl, ap, ◌∙◌, arith, add-zero}
use Rattle.std.specs.Result.{is_ok}
use Rattle.std.proofs.lemmas.Bool.{and_parts, and_right, lt-leb, le-ltb, false≢true}
use Rattle.pam_base.specs.declared.fault.FaultKind.{FaultKind}
use Rattle.pam_base.specs.Counts.{next_count}
use Rattle.conf_lex.specs.declared.token.RawRule.{RawRule}
use Rattle.control_words.specs.Stack.{Stack, none, line, sub, depth, lines_in}
use Rattle.service_load.specs.declared.rule_type.RuleType.{RuleType}
use Rattle.service_load.specs.declared.rule_type.RuleType.TheVariants.{Auth}
use Rattle.service_load.specs.Entry.{entry_of}
use Rattle.service_load.specs.Files.{plain_file, holds, held, all_fine}
use Rattle.service_load.specs.FirstFault.{Counts, Stop, going_on, checked_rule, take_one, look}
use Rattle.service_load.specs.Order.{Opener, by_rule, Item, opening, checked, made, items}
use Rattle.service_load.specs.RuleType.{same_type}
use Rattle.service_load.specs.Tree.{nodes}
use Rattle.service_print.specs.Printed.{numbered, subs_in}
use Rattle.service_print.proofs.Meant.{Meaning}
use Rattle.service_print.proofs.Understood.{in_the_directory}
use Rattle.service_print.proofs.Stacked.{meanings_from, meanings_nodes, meanings_items, IsFile, file_nodes, file_met}

-- the files of the substacks of a stack are at their positions
abbrev pub Stand : (List ℕ → Option (List ℕ)) → RuleType → List ℕ → ℕ → Stack → Type 0
Stand texts type service number none = Unit {0}
Stand texts type service number (line rule rest) = Stand texts type service number rest
Stand texts type service number (sub inner rest) =
    IsFile texts (in_the_directory (numbered service number)) (meanings_from type service (number + 1) inner)
    × Stand texts type service (number + 1) inner
    × Stand texts type service (number + 1 + subs_in inner) rest

pub same_type-self : (type : RuleType) → same_type type type ≡ true
same_type-self Auth = refl
same_type-self type = refl

-- ---- the stack

pub stack_stands : (texts : List ℕ → Option (List ℕ)) (type : RuleType) (service : List ℕ) (number levels : ℕ) (stack : Stack) → depth stack ≤ levels
    → Stand texts type service number stack
    → meanings_nodes (λ name. nodes texts levels type (plain_file name)) type (meanings_from type service number stack) ≡ stack
stack_stands texts type service number levels none deep stand = refl
stack_stands texts type service number levels (line rule rest) deep stand =
    rw (same_type-self type) (ap (line rule) (stack_stands texts type service number levels rest deep stand))
stack_stands texts type service number zero (sub inner rest) deep stand = absurd (omega arith)
stack_stands texts type service number (suc levels) (sub inner rest) deep stand =
    let inside : nodes texts (suc levels) type (plain_file (in_the_directory (numbered service number))) ≡ inner =
    file_nodes texts levels type (in_the_directory (numbered service number)) (meanings_from type service (number + 1) inner) stand.0
    ∙ stack_stands texts type service (number + 1) levels inner (omega arith) stand.1
    in
    let more = stack_stands texts type service (number + 1 + subs_in inner) (suc levels) rest (omega arith) stand.2 in
    rw (same_type-self type, inside) (ap (sub inner) more)

-- ---- a check without a fault

-- the check of these items ends with these numbers of openings and lines
pub record Passes (texts : List ℕ → Option (List ℕ)) (before : Counts) (items : List Item) (openings lines : ℕ) : Type 0 where
  pub calls : ℕ
  pub looks : look texts [] before items ≡ Ok (record { calls = calls; openings = openings; lines = lines })

abbrev pub counts_with : ℕ → ℕ → ℕ → Counts
counts_with calls openings lines = record { calls = calls; openings = openings; lines = lines }

going_through : (result : Result Counts Stop) (front both more : Counts → Result Counts Stop) → ((c : Counts) → both c ≡ going_on (front c) more)
    → going_on result both ≡ going_on (going_on result front) more
going_through (Ok counts) front both more each = each counts
going_through (Err stop) front both more each = refl

pub look-append : (texts : List ℕ → Option (List ℕ)) (fails : List ℕ) (before : Counts) (front more : List Item)
    → look texts fails before (front ++ more) ≡ going_on (look texts fails before front) (λ c. look texts fails c more)
unfolding look
look-append texts fails before [] more = refl
look-append texts fails before (item ∷ items) more =
    going_through (take_one texts fails before item) (λ c. look texts fails c items) (λ c. look texts fails c (items ++ more)) (λ c. look texts fails c more) (λ c. look-append texts fails c items more)

pub pass-append : (texts : List ℕ → Option (List ℕ)) (before : Counts) (front more : List Item) (openings lines openings' lines' : ℕ) (one : Passes texts before front openings lines)
    → Passes texts (counts_with one.calls openings lines) more openings' lines' → Passes texts before (front ++ more) openings' lines'
pass-append texts before front more openings lines openings' lines' one other = record {
  calls = other.calls;
  looks = look-append texts [] before front more ∙ ap (λ (r : Result Counts Stop). going_on r (λ c. look texts [] c more)) one.looks ∙ other.looks;
}

pub pass_none : (texts : List ℕ → Option (List ℕ)) (calls openings lines : ℕ) → Passes texts (counts_with calls openings lines) [] openings lines
unfolding look
pass_none texts calls openings lines = record { calls = calls; looks = refl }

-- a line is made
pass_line : (texts : List ℕ → Option (List ℕ)) (name : List ℕ) (number calls openings lines : ℕ) → lines < 4096
    → Passes texts (counts_with calls openings lines) (made name number ∷ []) openings (lines + 1)
unfolding look
pass_line texts name number calls openings lines few = record { calls = calls; looks = rw (lt-leb 4096 lines few) refl }

-- a file that exists is opened
pub pass_opening : (texts : List ℕ → Option (List ℕ)) (name : List ℕ) (level : ℕ) (opener : Opener) (calls openings lines : ℕ) (rules : List RawRule)
    → level ≤ 16 → openings < 256 → held texts (plain_file name) ≡ holds rules
    → Passes texts (counts_with calls openings lines) (opening (plain_file name) level opener ∷ []) (openings + 1) lines
unfolding look
pass_opening texts name level opener calls openings lines rules low few there = record {
  calls = next_count calls;
  looks = rw (le-ltb 16 level low, lt-leb 256 openings few, and_right (nat_lt calls (2 ^ 64 - 1)) false refl, there) refl;
}

checked_fine : (counts : Counts) (name : List ℕ) (number : ℕ) (read : Result _ FaultKind) → is_ok read ≡ true → checked_rule counts name number read ≡ Ok counts
checked_fine counts name number (Ok entry) fine = refl
checked_fine counts name number (Err kind) fine = absurd (false≢true fine)

pass_rule : (texts : List ℕ → Option (List ℕ)) (name : List ℕ) (calls openings lines : ℕ) (rule : RawRule) → is_ok (entry_of true rule) ≡ true
    → Passes texts (counts_with calls openings lines) (checked (plain_file name) rule ∷ []) openings lines
unfolding look
pass_rule texts name calls openings lines rule fine = record { calls = calls; looks = ap (λ (r : Result Counts Stop). going_on r (λ c. Ok c)) (checked_fine (counts_with calls openings lines) name rule.line (entry_of true rule) fine) }

-- rules without a fault are checked
pub pass_rules : (texts : List ℕ → Option (List ℕ)) (name : List ℕ) (calls openings lines : ℕ) (rules : List RawRule) → all_fine true rules ≡ true
    → Passes texts (counts_with calls openings lines) (map (checked (plain_file name)) rules) openings lines
pass_rules texts name calls openings lines [] fine = pass_none texts calls openings lines
pass_rules texts name calls openings lines (rule ∷ rules) fine =
    let parts = and_parts (is_ok (entry_of true rule)) (all_fine true rules) fine in
    let one = pass_rule texts name calls openings lines rule parts.0 in
    pass-append texts (counts_with calls openings lines) (checked (plain_file name) rule ∷ []) (map (checked (plain_file name)) rules) openings lines openings lines one (pass_rules texts name one.calls openings lines rules parts.1)

-- a printed file is opened, and its rules are checked
pub pass_file : (texts : List ℕ → Option (List ℕ)) (levels : ℕ) (type : RuleType) (opener : Opener) (name : List ℕ) (meanings : List Meaning) (is : IsFile texts name meanings) (calls openings lines openings' lines' : ℕ)
    → openings < 256 → ((calls' : ℕ) → Passes texts (counts_with calls' (openings + 1) lines) (meanings_items texts levels type name 1 meanings) openings' lines')
    → Passes texts (counts_with calls openings lines) (items texts (suc levels) type opener (plain_file name)) openings' lines'
pass_file texts levels type opener name meanings is calls openings lines openings' lines' few more =
    let low : 16 - levels ≤ 16 = omega arith in
    let opened = pass_opening texts name (16 - levels) opener calls openings lines is.rules low few is.held_is in
    let checks = pass_rules texts name opened.calls (openings + 1) lines is.rules (is.mean.fine is.meant) in
    let rest = pass-append texts (counts_with opened.calls (openings + 1) lines) (map (checked (plain_file name)) is.rules) (meanings_items texts levels type name 1 meanings) (openings + 1) lines openings' lines' checks (more checks.calls) in
    let whole = pass-append texts (counts_with calls openings lines) (opening (plain_file name) (16 - levels) opener ∷ []) (map (checked (plain_file name)) is.rules ++ meanings_items texts levels type name 1 meanings) (openings + 1) lines openings' lines' opened rest in
    record { calls = whole.calls; looks = ap (look texts [] (counts_with calls openings lines)) (file_met texts levels type opener name meanings is) ∙ whole.looks }

-- ---- the check of a stack

pub pass_stack : (texts : List ℕ → Option (List ℕ)) (type : RuleType) (service : List ℕ) (number levels : ℕ) (stack : Stack) (name : List ℕ) (first calls openings lines : ℕ)
    → depth stack ≤ levels → Stand texts type service number stack → openings + subs_in stack ≤ 256 → lines + lines_in stack ≤ 4096
    → Passes texts (counts_with calls openings lines) (meanings_items texts levels type name first (meanings_from type service number stack)) (openings + subs_in stack) (lines + lines_in stack)
pass_stack texts type service number levels none name first calls openings lines deep stand few short = rw (add-zero openings, add-zero lines) (pass_none texts calls openings lines)
pass_stack texts type service number levels (line rule rest) name first calls openings lines deep stand few short =
    let one = pass_line texts name first calls openings lines (omega arith) in
    let more = pass_stack texts type service number levels rest name (first + 1) one.calls openings (lines + 1) deep stand few (omega arith) in
    let sum : lines + 1 + lines_in rest ≡ lines + (lines_in rest + 1) = omega arith in
    rw (same_type-self type) (rw (← sum)
    (pass-append texts (counts_with calls openings lines) (made name first ∷ []) (meanings_items texts levels type name (first + 1) (meanings_from type service number rest)) openings (lines + 1) (openings + subs_in rest) (lines + 1 + lines_in rest) one more))
pass_stack texts type service number zero (sub inner rest) name first calls openings lines deep stand few short = absurd (omega arith)
pass_stack texts type service number (suc levels) (sub inner rest) name first calls openings lines deep stand few short =
    let file = in_the_directory (numbered service number) in
    let inside = pass_file texts levels type (by_rule name first) file (meanings_from type service (number + 1) inner) stand.0 calls openings lines (openings + 1 + subs_in inner) (lines + lines_in inner) (omega arith)
    (λ calls'. pass_stack texts type service (number + 1) levels inner file 1 calls' (openings + 1) lines (omega arith) stand.1 (omega arith) (omega arith))
    in
    let more = pass_stack texts type service (number + 1 + subs_in inner) (suc levels) rest name (first + 1) inside.calls (openings + 1 + subs_in inner) (lines + lines_in inner) (omega arith) stand.2 (omega arith) (omega arith) in
    let sum : openings + 1 + subs_in inner + subs_in rest ≡ openings + (subs_in inner + 1 + subs_in rest) = omega arith in
    let sum' : lines + lines_in inner + lines_in rest ≡ lines + (lines_in inner + lines_in rest) = omega arith in
    rw (same_type-self type) (rw (← sum, ← sum')
    (pass-append texts (counts_with calls openings lines) (items texts (suc levels) type (by_rule name first) (plain_file file)) (meanings_items texts (suc levels) type name (first + 1) (meanings_from type service (number + 1 + subs_in inner) rest))
    (openings + 1 + subs_in inner) (lines + lines_in inner) (openings + 1 + subs_in inner + subs_in rest) (lines + lines_in inner + lines_in rest) inside more))
