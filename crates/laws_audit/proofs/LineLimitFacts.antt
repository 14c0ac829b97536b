-- A stack that is loaded without a fault has at most 4,096 lines.
use Rattle.std.proofs.Common.{◌≡◌, ℕ, zero, suc, ◌+◌, ◌-◌, ◌<◌, ◌≤◌, Bool, true, false, ◌==◌, ◌&&◌, cond, nat_le, nat_lt, List, [], ◌∷◌}
use Rattle.std.proofs.Common.{◌++◌, map, codes, Option, Some, None, Result, Ok, Err, refl, sym, ◌∙◌, subst, arith}
use Rattle.std.proofs.lemmas.Bool.Decides.{nat_tests}
use Rattle.std.specs.List.{AllByRecursion, flat_map}
use Rattle.std.specs.Result.{is_ok}
use Rattle.pam_outside.specs.Counts.{fails_next}
use Rattle.control_words.specs.conf_lex.specs.declared.token.RawRule.{RawRule}
use Rattle.control_words.specs.Stack as stack
use Rattle.control_words.specs.Stack.{Stack, count, line, lines_in, none, sub}
use Rattle.service_load.specs.Entry.{after_type, entry_at, entry_of, entry_of_tokens, named_file, with_control, with_type}
use Rattle.control_words.specs.Bracket.{control_of}
use Rattle.control_words.specs.declared.bracket.ControlFault.{ControlFault}
use Rattle.control_words.specs.declared.control.Action.{Action}
use Rattle.control_words.specs.conf_lex.specs.declared.token.Token.{Token}
use Rattle.laws_audit.proofs.ModuleNameFacts.{OnGood, good_if, kept_good}
use Rattle.service_load.specs.Files.{FileContent, absent, faulty, holds, all_fine, entries_of, held, is_in_directory, plain_file, rules_held}
use Rattle.service_load.specs.FirstFault.{Counts, Stop, absent_file, asked, take_one, checked_rule, going_on, held_file, look}
use Rattle.service_load.specs.Order.{Item, Opener, as_last, as_other, as_service, by_rule, checked, content_items, entry_items}
use Rattle.service_load.specs.Order.{file_items, items, items_of, made, opening, other_opener, tree_items}
use Rattle.service_load.specs.Tree.{content_nodes, entry_nodes, nodes, nodes_of, serves, tree_from}
use Rattle.service_load.specs.RuleType.{is_word, type_field_of}
use Rattle.service_load.specs.declared.rule_type.RuleType.{RuleType}

-- unless there is a fault, so many lines were counted, and few in all
abbrev pub Adds : Result Counts Stop → ℕ → ℕ → Type 0
Adds (Ok now) was n = (now.lines ≡ was + n) × (was ≤ 4096 → now.lines ≤ 4096)
Adds (Err s) was n = Unit {0}

adds_if : (b : Bool) (x y : Result Counts Stop) (was n : ℕ) → (b ≡ true → Adds x was n) → (b ≡ false → Adds y was n) → Adds (cond b x y) was n
adds_if true x y was n a c = a refl
adds_if false x y was n a c = c refl

stays : (counts : Counts) → Adds (Ok counts) counts.lines 0
stays counts = (omega arith, λ few. few)

added_twice : (last : Result Counts Stop) (mid was m n : ℕ) → mid ≡ was + m → (was ≤ 4096 → mid ≤ 4096) → Adds last mid n → Adds last was (m + n)
added_twice (Err s) mid was m n e few a = tt
added_twice (Ok now) mid was m n e few a = (omega (arith, a.0), λ small. a.1 (few small))

both_add : (first : Result Counts Stop) (was m n : ℕ) (more : Counts → Result Counts Stop) → Adds first was m
    → ((c : Counts) → Adds (more c) c.lines n) → Adds (going_on first more) was (m + n)
both_add (Err s) was m n more a rest = tt
both_add (Ok c) was m n more a rest = added_twice (more c) c.lines was m n a.0 a.1 (rest c)

few_lines : (r : Result Counts Stop) (n : ℕ) (now : Counts) → Adds r 0 n → r ≡ Ok now → n ≤ 4096
few_lines (Err s) n now a e = absurd cc
few_lines (Ok c) n now a e = let small : c.lines ≤ 4096 = a.1 (omega arith) in omega (arith, a.0, small)

stepped : (r : Result Counts Stop) (more : Counts → Result Counts Stop) (d : Counts) → going_on r more ≡ Ok d → (c : Counts) × (r ≡ Ok c) × (more c ≡ Ok d)
stepped (Ok c) more d e = (c, refl, e)
stepped (Err s) more d e = absurd cc

lines_joined : (one more : Stack) → lines_in (stack.joined one more) ≡ lines_in one + lines_in more
lines_joined none more = omega arith
lines_joined (line rule rest) more = omega (arith, lines_joined rest more)
lines_joined (sub inner rest) more = omega (arith, lines_joined rest more)

no_lines : (s : Stack) → (count s == 0) ≡ true → lines_in s ≡ 0
no_lines none e = refl
no_lines (line rule rest) e = absurd (grind (arith, nat_tests))
no_lines (sub inner rest) e = absurd (grind (arith, nat_tests))

module _ (texts : List ℕ → Option (List ℕ)) (fails : List ℕ) where
  -- along these items so many lines are counted
  abbrev pub AddsAll : List Item → ℕ → Type 0
  AddsAll is n = (c : Counts) → Adds (look texts fails c is) c.lines n

  nothing_added : AddsAll [] 0
  unfolding look
  nothing_added c = stays c

  -- one item, and those after it
  item_adds : (i : Item) (is : List Item) (m n : ℕ) → ((c : Counts) → Adds (take_one texts fails c i) c.lines m) → AddsAll is n → AddsAll (i ∷ is) (m + n)
  unfolding look
  item_adds i is m n one rest c = both_add (take_one texts fails c i) c.lines m n (λ d. look texts fails d is) (one c) rest

  going_along : (first : Result Counts Stop) (xs ys : List Item) → ((c : Counts)
      → look texts fails c (xs ++ ys) ≡ going_on (look texts fails c xs) (λ d. look texts fails d ys))
      → going_on first (λ c. look texts fails c (xs ++ ys)) ≡ going_on (going_on first (λ c. look texts fails c xs)) (λ d. look texts fails d ys)
  going_along (Ok c) xs ys rest = rest c
  going_along (Err s) xs ys rest = refl

  look_on : (c : Counts) (xs ys : List Item) → look texts fails c (xs ++ ys) ≡ going_on (look texts fails c xs) (λ d. look texts fails d ys)
  unfolding look
  look_on c [] ys = refl
  look_on c (x ∷ xs) ys = going_along (take_one texts fails c x) xs ys (λ d. look_on d xs ys)

  all_add : (xs ys : List Item) (m n : ℕ) → AddsAll xs m → AddsAll ys n → AddsAll (xs ++ ys) (m + n)
  all_add xs ys m n a b c = rw (look_on c xs ys) (both_add (look texts fails c xs) c.lines m n (λ d. look texts fails d ys) (a c) b)

  same_number : (xs : List Item) (m n : ℕ) → m ≡ n → AddsAll xs m → AddsAll xs n
  same_number xs m n e a = subst (λ (k : ℕ). AddsAll xs k) e a

  -- ---- one item

  absent_adds : (c : Counts) (opener : Opener) → Adds (absent_file c opener) c.lines 0
  absent_adds c as_service = stays c
  absent_adds c as_other = stays c
  absent_adds c (as_last service) = tt
  absent_adds c (by_rule name n) = tt

  held_adds : (c : Counts) (file : _) (opener : Opener) (h : FileContent) → Adds (held_file c file opener h) c.lines 0
  held_adds c file opener absent = absent_adds c opener
  held_adds c file opener (faulty fault) = tt
  held_adds c file opener (holds rules) = stays c

  opening_adds : (file : _) (level : ℕ) (opener : Opener) (c : Counts) → Adds (take_one texts fails c (opening file level opener)) c.lines 0
  opening_adds file level opener c =
      adds_if (nat_lt 16 level) _ _ c.lines 0 (λ e. tt)
      (λ e. adds_if (nat_le 256 c.openings) _ _ c.lines 0 (λ f. tt)
      (λ f. adds_if (fails_next c.calls fails) _ _ c.lines 0 (λ g. tt) (λ g. held_adds (asked c) file opener (held texts file))))

  made_adds : (name : List ℕ) (n : ℕ) (c : Counts) → Adds (take_one texts fails c (made name n)) c.lines 1
  made_adds name n c =
      adds_if (nat_le 4096 c.lines) _ _ c.lines 1 (λ e. tt) (λ e. (refl, λ few. let below : c.lines < 4096 = grind (arith, nat_tests) in omega arith))

  -- ---- the rules of a file

  rule_adds : (name : List ℕ) (at : ℕ) (answer : _) (fine : Bool) (rest xs : List Item) (n : ℕ) (c : Counts) → AddsAll (rest ++ cond fine xs []) n
      → Adds (going_on (checked_rule c name at answer) (λ d. look texts fails d (rest ++ cond (is_ok answer && fine) xs []))) c.lines n
  rule_adds name at (Ok entry) fine rest xs n c a = a c
  rule_adds name at (Err kind) fine rest xs n c a = tt

  rules_add : (file : _) (xs : List Item) (n : ℕ) → AddsAll xs n → (rules : List RawRule)
      → AddsAll (map (checked file) rules ++ cond (all_fine (is_in_directory file) rules) xs []) n
  unfolding look
  rules_add file xs n a [] c = a c
  rules_add file xs n a (r ∷ rs) c =
      rule_adds file.name r.line (entry_of (is_in_directory file) r) (all_fine (is_in_directory file) rs) (map (checked file) rs) xs n c (rules_add file xs n a rs)

  items_if : (b : Bool) (xs : List Item) (s : Stack) → AddsAll xs (lines_in s) → AddsAll (cond b xs []) (lines_in (cond b s none))
  items_if true xs s a = a
  items_if false xs s a = nothing_added

-- ---- a file

module _ (texts : List ℕ → Option (List ℕ)) (fails : List ℕ) (type : RuleType) (deeper : Opener → _ → List Item) (stacks : List ℕ → Stack)
    (adds : (opener : Opener) (name : List ℕ) → AddsAll texts fails (deeper opener (plain_file name)) (lines_in (stacks name))) where
  as_substack : (is : List Item) (s : Stack) → AddsAll texts fails is (lines_in s) → AddsAll texts fails is (lines_in (sub s none))
  as_substack is s a = same_number texts fails is (lines_in s) (lines_in s + 0) (omega arith) a

  as_line : (name : List ℕ) (n : ℕ) → AddsAll texts fails (made name n ∷ []) 1
  as_line name n = same_number texts fails (made name n ∷ []) (1 + 0) 1 refl
      (item_adds texts fails (made name n) [] 1 0 (made_adds texts fails name n) (nothing_added texts fails))

  control_adds : (silent : Bool) (control : Result (List Action) ControlFault) (ts : List Token)
      → OnGood (λ c. (name : List ℕ) (n : ℕ) → AddsAll texts fails (content_items deeper name n c) (lines_in (content_nodes stacks c)))
      (with_control silent control ts)
  control_adds silent (Ok control) [] = tt
  control_adds silent (Ok control) (t ∷ ts) = λ name n. as_line name n
  control_adds silent (Err fault) ts = tt

  after_adds : (silent : Bool) (ts : List Token)
      → OnGood (λ c. (name : List ℕ) (n : ℕ) → AddsAll texts fails (content_items deeper name n c) (lines_in (content_nodes stacks c))) (after_type silent ts)
  after_adds silent [] = tt
  after_adds silent (t ∷ []) =
      good_if (λ c. (name : List ℕ) (n : ℕ) → AddsAll texts fails (content_items deeper name n c) (lines_in (content_nodes stacks c)))
      (is_word (codes "include") t) _ _ tt
      (good_if (λ c. (name : List ℕ) (n : ℕ) → AddsAll texts fails (content_items deeper name n c) (lines_in (content_nodes stacks c)))
      (is_word (codes "substack") t) _ _ tt
      (control_adds silent (control_of t.bracketed t.text) []))
  after_adds silent (t ∷ u ∷ us) =
      good_if (λ c. (name : List ℕ) (n : ℕ) → AddsAll texts fails (content_items deeper name n c) (lines_in (content_nodes stacks c)))
      (is_word (codes "include") t) _ _
      (λ name n. adds (by_rule name n) (named_file u.text))
      (good_if (λ c. (name : List ℕ) (n : ℕ) → AddsAll texts fails (content_items deeper name n c) (lines_in (content_nodes stacks c)))
      (is_word (codes "substack") t) _ _
      (λ name n. as_substack (deeper (by_rule name n) (plain_file (named_file u.text))) (stacks (named_file u.text))
      (adds (by_rule name n) (named_file u.text)))
      (control_adds silent (control_of t.bracketed t.text) (u ∷ us)))

  entry_adds : (n : ℕ) (own : Option RuleType) (content : _)
      → OnGood (λ c. (name : List ℕ) (n : ℕ) → AddsAll texts fails (content_items deeper name n c) (lines_in (content_nodes stacks c))) content
      → OnGood (λ e. (name : List ℕ) → AddsAll texts fails (entry_items deeper type name e) (lines_in (entry_nodes stacks type e))) (entry_at n own content)
  entry_adds n own (Ok c) a = λ name. items_if texts fails (serves type own) _ _ (a name n)
  entry_adds n own (Err kind) a = tt

  typed_adds : (n : ℕ) (field : Option _) (ts : List Token)
      → OnGood (λ e. (name : List ℕ) → AddsAll texts fails (entry_items deeper type name e) (lines_in (entry_nodes stacks type e))) (with_type n field ts)
  typed_adds n None ts = tt
  typed_adds n (Some field) ts = entry_adds n (Some field.rule_type) (after_type field.silent ts) (after_adds field.silent ts)

  tokens_add : (n : ℕ) (in_directory : Bool) (ts : List Token)
      → OnGood (λ e. (name : List ℕ) → AddsAll texts fails (entry_items deeper type name e) (lines_in (entry_nodes stacks type e)))
      (entry_of_tokens n in_directory ts)
  tokens_add n in_directory [] = tt
  tokens_add n true (t ∷ []) =
      good_if (λ e. (name : List ℕ) → AddsAll texts fails (entry_items deeper type name e) (lines_in (entry_nodes stacks type e)))
      (is_word (codes "@include") t) _ _ tt
      (typed_adds n (type_field_of t) [])
  tokens_add n true (t ∷ u ∷ us) =
      good_if (λ e. (name : List ℕ) → AddsAll texts fails (entry_items deeper type name e) (lines_in (entry_nodes stacks type e)))
      (is_word (codes "@include") t) _ _
      (λ name. adds (by_rule name n) (named_file u.text)) (typed_adds n (type_field_of t) (u ∷ us))
  tokens_add n false (t ∷ ts) = typed_adds n (type_field_of t) ts

  rule_is_counted : (in_directory : Bool) (r : RawRule)
      → OnGood (λ e. (name : List ℕ) → AddsAll texts fails (entry_items deeper type name e) (lines_in (entry_nodes stacks type e))) (entry_of in_directory r)
  unfolding entry_of
  rule_is_counted in_directory r = tokens_add r.line in_directory r.tokens

  rules_are_counted : (in_directory : Bool) (rules : List RawRule)
      → AllByRecursion (λ e. (name : List ℕ) → AddsAll texts fails (entry_items deeper type name e) (lines_in (entry_nodes stacks type e)))
      (entries_of in_directory rules)
  rules_are_counted in_directory [] = tt
  rules_are_counted in_directory (r ∷ rs) =
      kept_good (λ e. (name : List ℕ) → AddsAll texts fails (entry_items deeper type name e) (lines_in (entry_nodes stacks type e))) (entry_of in_directory r)
      (entries_of in_directory rs)
      (rule_is_counted in_directory r) (rules_are_counted in_directory rs)

  entries_add : (name : List ℕ) (es : _) → AllByRecursion (λ e. (name : List ℕ)
      → AddsAll texts fails (entry_items deeper type name e) (lines_in (entry_nodes stacks type e))) es
      → AddsAll texts fails (items_of deeper type name es) (lines_in (nodes_of stacks type es))
  entries_add name [] a = nothing_added texts fails
  entries_add name (e ∷ es) a =
      same_number texts fails (entry_items deeper type name e ++ items_of deeper type name es) _ _
      (sym (lines_joined (entry_nodes stacks type e) (nodes_of stacks type es)))
      (all_add texts fails (entry_items deeper type name e) (items_of deeper type name es) _ _ (a.0 name) (entries_add name es a.1))

  file_adds : (file : _) (rules : List RawRule)
      → AddsAll texts fails (file_items deeper type file rules) (lines_in (nodes_of stacks type (entries_of (is_in_directory file) rules)))
  file_adds file rules =
      rules_add texts fails file (items_of deeper type file.name (entries_of (is_in_directory file) rules)) _
      (entries_add file.name (entries_of (is_in_directory file) rules) (rules_are_counted (is_in_directory file) rules)) rules

module _ (texts : List ℕ → Option (List ℕ)) (fails : List ℕ) where
  items_add : (levels : ℕ) (type : RuleType) (opener : Opener) (file : _)
      → AddsAll texts fails (items texts levels type opener file) (lines_in (nodes texts levels type file))
  unfolding items nodes
  items_add zero type opener file =
      same_number texts fails (opening file 17 opener ∷ []) (0 + 0) 0 refl
      (item_adds texts fails (opening file 17 opener) [] 0 0 (opening_adds texts fails file 17 opener) (nothing_added texts fails))
  items_add (suc levels) type opener file =
      let stacks : List ℕ → Stack = λ name. nodes texts levels type (plain_file name) in
      let n : ℕ = lines_in (nodes_of stacks type (entries_of (is_in_directory file) (rules_held (held texts file)))) in
      same_number texts fails (opening file (16 - levels) opener ∷ file_items (items texts levels type) type file (rules_held (held texts file))) (0 + n) n
      (omega arith)
      (item_adds texts fails (opening file (16 - levels) opener) (file_items (items texts levels type) type file (rules_held (held texts file))) 0 n
      (opening_adds texts fails file (16 - levels) opener)
      (file_adds texts fails type (items texts levels type) stacks (λ why name. items_add levels type why (plain_file name)) file
      (rules_held (held texts file))))

  -- ---- a tree

  tree_body : (empty : Bool) (own other : Stack) (front more : List Item) → (count own == 0) ≡ empty → AddsAll texts fails front (lines_in own)
      → AddsAll texts fails more (lines_in other)
      → AddsAll texts fails (front ++ cond empty more []) (lines_in (cond empty other own))
  tree_body true own other front more e a b =
      let none_own = no_lines own e in
      same_number texts fails (front ++ more) (lines_in own + lines_in other) (lines_in other) (omega arith) (all_add texts fails front more _ _ a b)
  tree_body false own other front more e a b =
      same_number texts fails (front ++ []) (lines_in own + 0) (lines_in own) (omega arith) (all_add texts fails front [] _ _ a (nothing_added texts fails))

  one_tree : (own : _) (other : _) (type : RuleType) (c now : Counts) → look texts fails c (tree_items texts own other type) ≡ Ok now
      → lines_in (tree_from texts own other type) ≤ 4096
  unfolding look
  one_tree own other type c now e =
      let body = tree_body (count (nodes texts 17 type own) == 0) (nodes texts 17 type own) (nodes texts 17 type other) (items texts 17 type as_service own)
      (items texts 17 type (other_opener texts own) other) refl (items_add 17 type as_service own) (items_add 17 type (other_opener texts own) other) in
      few_lines _ (lines_in (tree_from texts own other type)) now (body (record c { lines = 0 })) e

  pub trees_fit : (own : _) (other : _) (types : List RuleType) (c now : Counts) → look texts fails c (flat_map (tree_items texts own other) types) ≡ Ok now
      → AllByRecursion (λ (t : RuleType). lines_in (tree_from texts own other t) ≤ 4096) types
  trees_fit own other [] c now e = tt
  trees_fit own other (t ∷ ts) c now e =
      let parts = stepped (look texts fails c (tree_items texts own other t)) (λ d. look texts fails d (flat_map (tree_items texts own other) ts)) now
      (sym (look_on texts fails c (tree_items texts own other t) (flat_map (tree_items texts own other) ts)) ∙ e) in
      (one_tree own other t c parts.0 parts.1, trees_fit own other ts parts.0 now parts.2)
