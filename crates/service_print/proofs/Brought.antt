-- What a check without a fault says about the stacks that it meets.
use Rattle.std.proofs.Common.{◌≡◌, ℕ, zero, suc, ◌+◌, ◌-◌, ◌≤◌, ◌<◌, Bool, true, false, cond, eqb, nat_lt, nat_le, List, [], ◌∷◌, ◌++◌, map, Option, Result, Ok, Err, refl, sym, ap, ◌∙◌, subst, arith, add-zero, zero-add, inl, inr}
use Rattle.std.specs.List.{list_all}
use Rattle.std.specs.Result.{is_ok}
use Rattle.std.proofs.lemmas.Bool.{cases_Bool, and_parts, and_from, leb-false, false≢true}
use Rattle.pam_base.specs.declared.fault.FaultKind.{FaultKind}
use Rattle.pam_base.specs.Counts.{fails_next}
use Rattle.conf_lex.specs.declared.token.RawRule.{RawRule}
use Rattle.control_words.specs.declared.nodes.Rule.{Rule}
use Rattle.control_words.specs.Stack.{Stack, none, line, sub, joined, count, depth, lines_in}
use Rattle.service_load.specs.declared.rule_type.RuleType.{RuleType}
use Rattle.service_load.specs.Entry.{entry_of}
use Rattle.service_load.specs.Files.{plain_file, FileContent, absent, faulty, holds, held, rules_held, all_fine, is_in_directory}
use Rattle.service_load.specs.FirstFault.{Counts, Stop, going_on, asked, absent_file, held_file, checked_rule, take_one, look}
use Rattle.service_load.specs.Order.{Opener, as_service, as_other, as_last, by_rule, Item, begin, opening, checked, made, items, other_opener, tree_items}
use Rattle.service_load.specs.Tree.{serves, nodes, tree_of}
use Rattle.service_print.specs.Printed.{subs_in}
use Rattle.service_print.proofs.PrintedStackFacts.{look-append}
use Rattle.service_print.proofs.Returned.{openings_for}
use Rattle.service_print.proofs.Meant.{Meaning, nothing, a_line, an_include, a_substack, meant_nodes, meant_items, nodes_from, items_from}
use Rattle.service_print.proofs.Taken.{Reading, good_rule}
use Rattle.service_print.proofs.Known.{known, held_good}

-- ---- parts of a check

pub record Split (texts : List ℕ → Option (List ℕ)) (fails : List ℕ) (before : Counts) (front more : List Item) (after : Counts) : Type 0 where
  pub between : Counts
  pub first : look texts fails before front ≡ Ok between
  pub second : look texts fails between more ≡ Ok after

through : (result : Result Counts Stop) (more : Counts → Result Counts Stop) (after : Counts) → going_on result more ≡ Ok after
    → (between : Counts) × (result ≡ Ok between) × (more between ≡ Ok after)
through (Ok counts) more after is = (counts, refl, is)
through (Err stop) more after is = absurd cc

pub split : (texts : List ℕ → Option (List ℕ)) (fails : List ℕ) (before : Counts) (front more : List Item) (after : Counts)
    → look texts fails before (front ++ more) ≡ Ok after → Split texts fails before front more after
split texts fails before front more after is =
    let parts = through (look texts fails before front) (λ c. look texts fails c more) after (sym (look-append texts fails before front more) ∙ is) in
    record { between = parts.0; first = parts.1; second = parts.2 }

pub nothing_met : (texts : List ℕ → Option (List ℕ)) (fails : List ℕ) (before after : Counts) → look texts fails before [] ≡ Ok after → before ≡ after
unfolding look
nothing_met texts fails before after is = cc

one_met : (texts : List ℕ → Option (List ℕ)) (fails : List ℕ) (before after : Counts) (item : Item) → look texts fails before (item ∷ []) ≡ Ok after
    → take_one texts fails before item ≡ Ok after
unfolding look
one_met texts fails before after item is =
    let parts = through (take_one texts fails before item) (λ c. Ok c) after is in
    let same : parts.0 ≡ after = let e = parts.2 in cc in
    parts.1 ∙ ap Ok same

-- ---- a stack was added

pub record Brings (before after : Counts) (stack : Stack) (levels : ℕ) (extra : ℕ) : Type 0 where
  pub lines : after.lines ≡ before.lines + lines_in stack
  pub openings : before.openings + extra + subs_in stack ≤ after.openings
  pub deep : depth stack + extra ≤ levels
  pub few : before.openings ≤ 256 → after.openings ≤ 256
  pub short : before.lines ≤ 4096 → after.lines ≤ 4096

pub lines_in-joined : (a b : Stack) → lines_in (joined a b) ≡ lines_in a + lines_in b
lines_in-joined none b = sym (zero-add (lines_in b))
lines_in-joined (line rule rest) b = omega (arith, lines_in-joined rest b)
lines_in-joined (sub inner rest) b = omega (arith, lines_in-joined rest b)

pub subs_in-joined : (a b : Stack) → subs_in (joined a b) ≡ subs_in a + subs_in b
subs_in-joined none b = sym (zero-add (subs_in b))
subs_in-joined (line rule rest) b = subs_in-joined rest b
subs_in-joined (sub inner rest) b = omega (arith, subs_in-joined rest b)

pub depth-joined : (a b : Stack) (n : ℕ) → depth a ≤ n → depth b ≤ n → depth (joined a b) ≤ n
depth-joined none b n one other = other
depth-joined (line rule rest) b n one other = depth-joined rest b n one other
depth-joined (sub inner rest) b n one other =
    let more = depth-joined rest b n (omega arith) other in
    omega (arith, more)

brings_nothing : (before after : Counts) (levels : ℕ) → before ≡ after → Brings before after none levels 0
brings_nothing before after levels same = subst (λ (c : Counts). Brings before c none levels 0) same (record { lines = sym (add-zero before.lines); openings = omega arith; deep = omega arith; few = λ h. h; short = λ h. h })

brings_both : (before between after : Counts) (a b : Stack) (levels : ℕ) → Brings before between a levels 0 → Brings between after b levels 0
    → Brings before after (joined a b) levels 0
brings_both before between after a b levels one other = record {
  lines = omega (arith, one.lines, other.lines, lines_in-joined a b);
  openings = omega (arith, one.openings, other.openings, subs_in-joined a b);
  deep = (let both = depth-joined a b levels (omega (arith, one.deep)) (omega (arith, other.deep)) in omega (arith, both));
  few = λ h. other.few (one.few h);
  short = λ h. other.short (one.short h);
}

-- a file that was opened, whose nodes replace the rule or are a substack
as_included : (before after : Counts) (stack : Stack) (levels : ℕ) → Brings before after stack levels 1 → Brings before after stack levels 0
as_included before after stack levels is = record { lines = is.lines; openings = omega (arith, is.openings); deep = omega (arith, is.deep); few = is.few; short = is.short }

as_substack : (before after : Counts) (stack : Stack) (levels : ℕ) → Brings before after stack levels 1 → Brings before after (sub stack none) levels 0
as_substack before after stack levels is = record { lines = omega (arith, is.lines); openings = omega (arith, is.openings); deep = omega (arith, is.deep); few = is.few; short = is.short }

-- ---- single items

pub past : (b : Bool) (stop : Stop) (more : Result Counts Stop) (after : Counts) → cond b (Err stop) more ≡ Ok after → (b ≡ false) × (more ≡ Ok after)
past true stop more after is = absurd cc
past false stop more after is = (refl, is)

pub record Made (before after : Counts) : Type 0 where
  pub few : before.lines < 4096
  pub lines : after.lines ≡ before.lines + 1
  pub openings : after.openings ≡ before.openings

line_made : (texts : List ℕ → Option (List ℕ)) (fails : List ℕ) (before after : Counts) (name : List ℕ) (number : ℕ)
    → take_one texts fails before (made name number) ≡ Ok after → Made before after
line_made texts fails before after name number is =
    let parts = past (nat_le 4096 before.lines) _ _ after is in
    let same : record before { lines = before.lines + 1 } ≡ after = let e = parts.1 in cc in
    record {
      few = leb-false 4096 before.lines parts.0;
      lines = ap (λ (c : Counts). c.lines) (sym same);
      openings = ap (λ (c : Counts). c.openings) (sym same);
    }

pub record Opened (before after : Counts) : Type 0 where
  pub few : before.openings < 256
  pub openings : after.openings ≡ before.openings + 1
  pub lines : after.lines ≡ before.lines

absent_passed : (counts after : Counts) (opener : Opener) → absent_file counts opener ≡ Ok after → counts ≡ after
absent_passed counts after as_service is = cc
absent_passed counts after as_other is = cc
absent_passed counts after (as_last service) is = absurd cc
absent_passed counts after (by_rule name number) is = absurd cc

held_passed : (counts after : Counts) (file : _) (opener : Opener) (found : FileContent) → held_file counts file opener found ≡ Ok after → counts ≡ after
held_passed counts after file opener absent is = absent_passed counts after opener is
held_passed counts after file opener (faulty fault) is = absurd cc
held_passed counts after file opener (holds rules) is = cc

file_opened : (texts : List ℕ → Option (List ℕ)) (fails : List ℕ) (before after : Counts) (file : _) (level : ℕ) (opener : Opener)
    → take_one texts fails before (opening file level opener) ≡ Ok after → Opened before after
file_opened texts fails before after file level opener is =
    let low = past (nat_lt 16 level) _ _ after is in
    let few = past (nat_le 256 before.openings) _ _ after low.1 in
    let told = past (fails_next before.calls fails) _ _ after few.1 in
    let same = held_passed (asked before) after file opener (held texts file) told.1 in
    record {
      few = leb-false 256 before.openings few.0;
      openings = ap (λ (c : Counts). c.openings) (sym same);
      lines = ap (λ (c : Counts). c.lines) (sym same);
    }

rule_passed : (counts after : Counts) (name : List ℕ) (number : ℕ) (read : Result _ FaultKind) → checked_rule counts name number read ≡ Ok after
    → (counts ≡ after) × (is_ok read ≡ true)
rule_passed counts after name number (Ok entry) is = (let same : counts ≡ after = cc in same, refl)
rule_passed counts after name number (Err kind) is = absurd cc

rules_passed : (texts : List ℕ → Option (List ℕ)) (fails : List ℕ) (before after : Counts) (file : _) (rules : List RawRule)
    → look texts fails before (map (checked file) rules) ≡ Ok after → (before ≡ after) × (all_fine (is_in_directory file) rules ≡ true)
rules_passed texts fails before after file [] is = (nothing_met texts fails before after is, refl)
rules_passed texts fails before after file (rule ∷ rules) is =
    let parts = split texts fails before (checked file rule ∷ []) (map (checked file) rules) after is in
    let here = rule_passed before parts.between file.name rule.line (entry_of (is_in_directory file) rule) (one_met texts fails before parts.between (checked file rule) parts.first) in
    let more = rules_passed texts fails parts.between after file rules parts.second in
    (here.0 ∙ more.0, and_from (is_ok (entry_of (is_in_directory file) rule)) (all_fine (is_in_directory file) rules) here.1 more.1)

-- ---- files

abbrev FilesBring : (List ℕ → Option (List ℕ)) → List ℕ → ℕ → Type 0
FilesBring texts fails levels = (type : RuleType) (opener : Opener) (file : _) (before after : Counts) → look texts fails before (items texts levels type opener file) ≡ Ok after → Brings before after (nodes texts levels type file) levels 1

brings_line : (before after : Counts) (rule : Rule) (levels : ℕ) → Made before after → Brings before after (line rule none) levels 0
brings_line before after rule levels is = record { lines = omega (arith, is.lines); openings = omega (arith, is.openings); deep = omega arith; few = λ h. omega (arith, is.openings, h); short = λ h. omega (arith, is.lines, is.few) }

meant_bring : (texts : List ℕ → Option (List ℕ)) (fails : List ℕ) (levels : ℕ) → FilesBring texts fails levels
    → (type : RuleType) (name : List ℕ) (number : ℕ) (meaning : Meaning) (before after : Counts)
    → look texts fails before (meant_items texts levels type name number meaning) ≡ Ok after → Brings before after (meant_nodes (λ n. nodes texts levels type (plain_file n)) type meaning) levels 0
meant_bring texts fails levels files type name number nothing before after is = brings_nothing before after levels (nothing_met texts fails before after is)
meant_bring texts fails levels files type name number (a_line own rule) before after is =
    elim (cases_Bool (serves type own)) [
      | inl y ↦ rw y (brings_line before after rule levels (line_made texts fails before after name number (one_met texts fails before after (made name number) (rw y at is))))
      | inr n ↦ rw n (brings_nothing before after levels (nothing_met texts fails before after (rw n at is)))
    ]
meant_bring texts fails levels files type name number (an_include own file) before after is =
    elim (cases_Bool (serves type own)) [
      | inl y ↦ rw y (as_included before after (nodes texts levels type (plain_file file)) levels (files type (by_rule name number) (plain_file file) before after (rw y at is)))
      | inr n ↦ rw n (brings_nothing before after levels (nothing_met texts fails before after (rw n at is)))
    ]
meant_bring texts fails levels files type name number (a_substack own file) before after is =
    elim (cases_Bool (serves type own)) [
      | inl y ↦ rw y (as_substack before after (nodes texts levels type (plain_file file)) levels (files type (by_rule name number) (plain_file file) before after (rw y at is)))
      | inr n ↦ rw n (brings_nothing before after levels (nothing_met texts fails before after (rw n at is)))
    ]

rules_bring : (texts : List ℕ → Option (List ℕ)) (fails : List ℕ) (levels : ℕ) → FilesBring texts fails levels
    → (in_directory : Bool) (type : RuleType) (name : List ℕ) (rules : List RawRule) → list_all good_rule rules ≡ true → (before after : Counts)
    → look texts fails before (items_from texts levels in_directory type name rules) ≡ Ok after → Brings before after (nodes_from (λ n. nodes texts levels type (plain_file n)) in_directory type rules) levels 0
rules_bring texts fails levels files in_directory type name [] good before after is = brings_nothing before after levels (nothing_met texts fails before after is)
rules_bring texts fails levels files in_directory type name (rule ∷ rules) good before after is =
    let goods = and_parts (good_rule rule) (list_all good_rule rules) good in
    let means = known in_directory rule goods.0 in
    let deeper = λ (n : List ℕ). nodes texts levels type (plain_file n) in
    let parts = split texts fails before (meant_items texts levels type name rule.line means.meaning) (items_from texts levels in_directory type name rules) after (ap (look texts fails before) (sym (means.meant.items texts levels type name rules)) ∙ is) in
    subst (λ (s : Stack). Brings before after s levels 0) (sym (means.meant.nodes deeper type rules))
    (brings_both before parts.between after (meant_nodes deeper type means.meaning) (nodes_from deeper in_directory type rules) levels
    (meant_bring texts fails levels files type name rule.line means.meaning before parts.between parts.first)
    (rules_bring texts fails levels files in_directory type name rules goods.1 parts.between after parts.second))

brings_opened : (before between after : Counts) (stack : Stack) (levels : ℕ) → Opened before between → Brings between after stack levels 0
    → Brings before after stack (suc levels) 1
brings_opened before between after stack levels is more = record {
  lines = omega (arith, is.lines, more.lines);
  openings = omega (arith, is.openings, more.openings);
  deep = omega (arith, more.deep);
  few = λ h. more.few (omega (arith, is.openings, is.few));
  short = λ h. more.short (omega (arith, is.lines, h));
}

where_fine : (texts : List ℕ → Option (List ℕ)) (fails : List ℕ) (before after : Counts) (fine : Bool) (met : List Item) → fine ≡ true
    → look texts fails before (cond fine met []) ≡ Ok after → look texts fails before met ≡ Ok after
where_fine texts fails before after true met is looked = looked
where_fine texts fails before after false met is looked = absurd (false≢true is)

pub files_bring : Reading → (texts : List ℕ → Option (List ℕ)) (fails : List ℕ) (levels : ℕ) → FilesBring texts fails levels
unfolding items nodes
files_bring reading texts fails zero = λ type opener file before after is. let met = one_met texts fails before after (opening file 17 opener) is in absurd cc
files_bring reading texts fails (suc levels) = λ type opener file before after is.
    let rules = rules_held (held texts file) in
    let good = held_good reading file.service (texts file.name) in
    let first = split texts fails before (opening file (16 - levels) opener ∷ []) _ after is in
    let opens = file_opened texts fails before first.between file (16 - levels) opener (one_met texts fails before first.between (opening file (16 - levels) opener) first.first) in
    let second = split texts fails first.between (map (checked file) rules) _ after first.second in
    let passed = rules_passed texts fails first.between second.between file rules second.first in
    let entries = where_fine texts fails second.between after (all_fine (is_in_directory file) rules) (items_from texts levels (is_in_directory file) type file.name rules) passed.1 second.second in
    brings_opened before first.between after (nodes_from (λ n. nodes texts levels type (plain_file n)) (is_in_directory file) type rules) levels opens
    (subst (λ (c : Counts). Brings c after (nodes_from (λ n. nodes texts levels type (plain_file n)) (is_in_directory file) type rules) levels 0) (sym passed.0)
    (rules_bring texts fails levels (files_bring reading texts fails levels) (is_in_directory file) type file.name rules good second.between after entries))

-- ---- trees

begun : (texts : List ℕ → Option (List ℕ)) (fails : List ℕ) (before after : Counts) → look texts fails before (begin ∷ []) ≡ Ok after
    → record before { lines = 0 } ≡ after
begun texts fails before after is = let met = one_met texts fails before after begin is in cc

-- a tree was made
pub record Tree (before after : Counts) (stack : Stack) : Type 0 where
  pub openings : before.openings + openings_for stack ≤ after.openings
  pub few : before.openings ≤ 256 → after.openings ≤ 256
  pub lines : lines_in stack ≤ 4096
  pub deep : depth stack ≤ 16

extra_opening : (b : Bool) → cond {A = ℕ} b 1 0 ≤ 1
extra_opening true = omega arith
extra_opening false = omega arith

own_tree : (before start after : Counts) (own : Stack) → record before { lines = 0 } ≡ start → Brings start after own 17 1 → eqb (count own) 0 ≡ false
    → Tree before after own
own_tree before start after own begins is some =
    let openings : start.openings ≡ before.openings = ap (λ (c : Counts). c.openings) (sym begins) in
    let lines : start.lines ≡ 0 = ap (λ (c : Counts). c.lines) (sym begins) in
    let extra : openings_for own ≡ 1 + subs_in own + 0 = ap (λ (b : Bool). 1 + subs_in own + cond b 1 0) some in
    record {
      openings = omega (arith, is.openings, openings, extra);
      few = λ h. is.few (omega (arith, openings, h));
      lines = (let short = is.short (omega (arith, lines)) in omega (arith, is.lines, lines, short));
      deep = omega (arith, is.deep);
    }

other_tree : (before start middle after : Counts) (own other : Stack) → record before { lines = 0 } ≡ start → Brings start middle own 17 1
    → Brings middle after other 17 1 → Tree before after other
other_tree before start middle after own other begins is more =
    let openings : start.openings ≡ before.openings = ap (λ (c : Counts). c.openings) (sym begins) in
    let lines : start.lines ≡ 0 = ap (λ (c : Counts). c.lines) (sym begins) in
    let extra = extra_opening (eqb (count other) 0) in
    let first = is.short (omega (arith, lines)) in
    record {
      openings = omega (arith, is.openings, more.openings, openings, extra);
      few = λ h. more.few (is.few (omega (arith, openings, h)));
      lines = (let short = more.short first in omega (arith, more.lines, short));
      deep = omega (arith, more.deep);
    }

by_count : Reading → (texts : List ℕ → Option (List ℕ)) (fails : List ℕ) (own other : _) (type : RuleType) (before start middle after : Counts)
    → record before { lines = 0 } ≡ start → Brings start middle (nodes texts 17 type own) 17 1
    → (empty : Bool) → eqb (count (nodes texts 17 type own)) 0 ≡ empty → look texts fails middle (cond empty (items texts 17 type (other_opener texts own) other) []) ≡ Ok after
    → Tree before after (cond empty (nodes texts 17 type other) (nodes texts 17 type own))
by_count reading texts fails own other type before start middle after begins own_brings true is looked =
    other_tree before start middle after (nodes texts 17 type own) (nodes texts 17 type other) begins own_brings (files_bring reading texts fails 17 type (other_opener texts own) other middle after looked)
by_count reading texts fails own other type before start middle after begins own_brings false is looked =
    subst (λ (c : Counts). Tree before c (nodes texts 17 type own)) (nothing_met texts fails middle after looked) (own_tree before start middle (nodes texts 17 type own) begins own_brings is)

-- the stack of a type, and the openings after it
pub tree_brings : Reading → (texts : List ℕ → Option (List ℕ)) (fails : List ℕ) (own other : _) (type : RuleType) (before after : Counts)
    → look texts fails before (tree_items texts own other type) ≡ Ok after
    → Tree before after (tree_of (nodes texts 17 type own) (nodes texts 17 type other))
tree_brings reading texts fails own other type before after is =
    let first = split texts fails before (begin ∷ []) _ after is in
    let begins = begun texts fails before first.between first.first in
    let second = split texts fails first.between (items texts 17 type as_service own) _ after first.second in
    let own_brings = files_bring reading texts fails 17 type as_service own first.between second.between second.first in
    by_count reading texts fails own other type before first.between second.between after begins own_brings (eqb (count (nodes texts 17 type own)) 0) refl second.second
