-- The load of the generated files meets no fault.
use Rattle.std.proofs.Common.{◌≡◌, ℕ, suc, zero, ◌+◌, ◌-◌, ◌*◌, ◌%◌, ◌≤◌, min, Bool, true, false, cond, ◌==◌, ◌&&◌, List, [], ◌∷◌, ◌++◌}
use Rattle.std.proofs.Common.{codes, map, Option, Some, None, Result, Ok, Err, nat_lt, refl, sym, ap, ◌∙◌, subst, arith}
use Rattle.std.specs.List.{filter, range_with_len}
use Rattle.std.proofs.lemmas.Bool.{and_from, and_left, and_right, eq-eqb, le-ltb, lt-ltb, ne_eqb}
use Rattle.pam_base.specs.declared.fault.FaultKind.TheVariants.{ReadFailed}
use Rattle.pam_outside.specs.Counts.{next_count}
use Rattle.pam_outside.specs.Files.{Locks, VaultState}
use Rattle.pam_outside.specs.Paths.{path_of}
use Rattle.random_config.specs.Files.{count_of, is_odd, service, text_of}
use Rattle.service_load.specs.control_words.specs.Stack.{count}
use Rattle.service_load.specs.declared.entry.RuleContent.{RuleContent}
use Rattle.service_load.specs.declared.rule_file.RuleFile.{RuleFile}
use Rattle.service_load.specs.declared.rule_type.RuleType.{RuleType}
use Rattle.service_load.specs.declared.rule_type.RuleType.TheVariants.{Auth, Account, Password, Session}
use Rattle.service_load.specs.Entry.{directory_name}
use Rattle.service_load.specs.Files.{FileContent, absent, held, held_text, is_absent, plain_file, rules_held}
use Rattle.service_load.specs.FirstFault.{Counts, Stop, asked, fault_at, held_file, look}
use Rattle.service_load.specs.Load.{directory_exists, loaded, loaded_from}
use Rattle.service_load.specs.Loading.{texts_of}
use Rattle.service_load.specs.Order.{Item, Opener, as_last, as_other, as_service, by_rule, content_items, items, file_items, items_of}
use Rattle.service_load.specs.Order.{opening, other_opener, tree_items, trees_items}
use Rattle.service_load.specs.Tree.{nodes, serves}
use Rattle.cmd_generate.specs.RandomRules.{contents_of, random_content, entries_from, service_contents, substack_content}
use Rattle.cmd_generate.proofs.GeneratedRuleFacts.{holds_file, holds_service}
use Rattle.cmd_generate.proofs.LoadSizeFacts.{Brings, Passed, Passes, brings_more, brings_none, held_is, look_then, passes_file, passes_made}
use Rattle.cmd_generate.proofs.LoadSizeFacts.{passes_none, passes_opening, passes_then, passes_within}
use Rattle.cmd_generate.proofs.StoredFileFacts.{all, file_found, has_directory, never, other_absent, path_at, service_found, service_path, vault_with}

-- ---- odd and even numbers

odd_at : (j : ℕ) → is_odd (2 * j + 1) ≡ true
odd_at j = eq-eqb ((2 * j + 1) % 2) 1 (omega arith)

even_at : (j : ℕ) → is_odd (2 * j + 1 + 1) ≡ false
even_at j = ne_eqb ((2 * j + 1 + 1) % 2) 1 (λ e. omega (arith, e))

-- ---- the texts of the files

module _ (texts : List ℕ → Option (List ℕ)) (seed lines : ℕ) (most : lines ≤ 4096)
    (files : (k : ℕ) → 1 ≤ k → k ≤ count_of lines → texts (path_at k) ≡ Some (text_of seed lines k))
    (own : texts service_path ≡ Some (service (count_of lines)).text)
    (other : texts (codes "/etc/pam.d/other") ≡ None) where
  abbrev before : ℕ → ℕ
  before k = 32 * (k - 1)

  abbrev number : ℕ → ℕ
  number k = min (32 * k) lines - 32 * (k - 1)

  number_few : (k : ℕ) → number k ≤ 32
  number_few k = omega arith

  abbrev leads_on : ℕ → Bool
  leads_on k = is_odd k && nat_lt k (count_of lines)

  -- generated lines, and what follows them
  random_bring : (name : List ℕ) (deeper : _) (a n : ℕ) (rest : List RuleContent) (opens made : ℕ) → Brings texts name deeper rest opens made
      → Brings texts name deeper (map (random_content seed) (range_with_len a n) ++ rest) opens (n + made)
  random_bring name deeper a zero rest opens made bring = λ line. passes_within texts _ opens opens made (0 + made) (bring line) (omega arith) (omega arith)
  random_bring name deeper a (suc n) rest opens made bring =
      let more = random_bring name deeper (a + 1) n rest opens made bring in
      let all = brings_more texts name deeper (random_content seed a) (map (random_content seed) (range_with_len (a + 1) n) ++ rest) 0 opens 1 (n + made)
      (λ line. passes_made texts name line) more in
      λ line. passes_within texts _ (0 + opens) opens (1 + (n + made)) (suc n + made) (all line) (omega arith) (omega arith)

  -- a file without a substack
  pub alone_passes : (k : ℕ) → 1 ≤ k → k ≤ count_of lines → leads_on k ≡ false → (level : ℕ) (opener : Opener)
      → Passes texts (items texts (suc level) Auth opener (plain_file (path_at k))) 1 32
  alone_passes k from to ends level opener =
      let deeper = items texts level Auth in
      let name = path_at k in
      let bring : Brings texts name deeper (contents_of seed lines k) 0 (number k + 0) =
      subst (λ (b : Bool). Brings texts name deeper (map (random_content seed) (range_with_len (before k) (number k))
      ++ cond b (substack_content (k + 1) ∷ []) []) 0 (number k + 0)) (sym ends)
      (random_bring name deeper (before k) (number k) [] 0 0 (brings_none texts name deeper)) in
      passes_within texts _ (1 + 0) 1 (number k + 0) 32
      (passes_file texts name (text_of seed lines k) (contents_of seed lines k) (files k from to) (holds_file seed lines k most to) level Auth opener 0
      (number k + 0) (bring 1))
      (omega arith) (omega (arith, number_few k))

  -- a file with the next one as a substack
  pub leading_passes : (k : ℕ) → 1 ≤ k → k + 1 ≤ count_of lines → leads_on k ≡ true → leads_on (k + 1) ≡ false → (level : ℕ) (opener : Opener)
      → Passes texts (items texts (suc (suc level)) Auth opener (plain_file (path_at k))) 2 64
  leading_passes k from to leads ends level opener =
      let deeper = items texts (suc level) Auth in
      let name = path_at k in
      let next : Brings texts name deeper (substack_content (k + 1) ∷ []) (1 + 0) (32 + 0) =
      brings_more texts name deeper (substack_content (k + 1)) [] 1 0 32 0 (λ line. alone_passes (k + 1) (omega arith) to ends level (by_rule name line))
      (brings_none texts name deeper) in
      let bring : Brings texts name deeper (contents_of seed lines k) (1 + 0) (number k + (32 + 0)) =
      subst (λ (b : Bool). Brings texts name deeper (map (random_content seed) (range_with_len (before k) (number k))
      ++ cond b (substack_content (k + 1) ∷ []) []) (1 + 0) (number k + (32 + 0))) (sym leads)
      (random_bring name deeper (before k) (number k) (substack_content (k + 1) ∷ []) (1 + 0) (32 + 0) next) in
      passes_within texts _ (1 + (1 + 0)) 2 (number k + (32 + 0)) 64
      (passes_file texts name (text_of seed lines k) (contents_of seed lines k) (files k from (omega (arith, to)))
      (holds_file seed lines k most (omega (arith, to))) (suc level) Auth opener (1 + 0) (number k + (32 + 0)) (bring 1))
      (omega arith) (omega (arith, number_few k))

  -- ---- the service

  abbrev deep : Opener → RuleFile → List Item
  deep = items texts 16 Auth

  odds_of : (j m : ℕ) → filter is_odd (range_with_len (2 * j + 1) (suc (suc m))) ≡ (2 * j + 1) ∷ filter is_odd (range_with_len (2 * j + 1 + 1 + 1) m)
  odds_of j m =
      let a = 2 * j + 1 in
      let more = filter is_odd (range_with_len (a + 1 + 1) m) in
      ap (λ (b : Bool). cond b (a ∷ cond (is_odd (a + 1)) ((a + 1) ∷ more) more) (cond (is_odd (a + 1)) ((a + 1) ∷ more) more)) (odd_at j)
      ∙ ap (λ (b : Bool). a ∷ cond b ((a + 1) ∷ more) more) (even_at j)

  abbrev odd_contents : ℕ → ℕ → List RuleContent
  odd_contents a m = map substack_content (filter is_odd (range_with_len a m))

  service_brings : (j m : ℕ) → 2 * j + 1 + m ≡ count_of lines + 1 → Brings texts service_path deep (odd_contents (2 * j + 1) m) m (32 * m)
  service_brings j zero e = brings_none texts service_path deep
  service_brings j (suc zero) e =
      let a = 2 * j + 1 in
      let ends : leads_on a ≡ false = and_right (is_odd a) (nat_lt a (count_of lines)) (le-ltb a (count_of lines) (omega (arith, e))) in
      let one : Brings texts service_path deep (substack_content a ∷ []) 1 32 =
      λ line. passes_within texts _ (1 + 0) 1 (32 + 0) 32
      (brings_more texts service_path deep (substack_content a) [] 1 0 32 0
      (λ n. alone_passes a (omega arith) (omega (arith, e)) ends 15 (by_rule service_path n)) (brings_none texts service_path deep) line) (omega arith)
      (omega arith) in
      subst (λ (b : Bool). Brings texts service_path deep (map substack_content (cond b (a ∷ []) [])) 1 32) (sym (odd_at j)) one
  service_brings j (suc (suc m)) e =
      let a = 2 * j + 1 in
      let leads : leads_on a ≡ true = and_from (is_odd a) (nat_lt a (count_of lines)) (odd_at j) (lt-ltb a (count_of lines) (omega (arith, e))) in
      let ends : leads_on (a + 1) ≡ false = and_left (is_odd (a + 1)) (nat_lt (a + 1) (count_of lines)) (even_at j) in
      let next : 2 * (j + 1) + 1 ≡ a + 1 + 1 = omega arith in
      let more : Brings texts service_path deep (odd_contents (a + 1 + 1) m) m (32 * m) =
      subst (λ (n : ℕ). Brings texts service_path deep (odd_contents n m) m (32 * m)) next (service_brings (j + 1) m (omega (arith, e))) in
      let all : Brings texts service_path deep (substack_content a ∷ odd_contents (a + 1 + 1) m) (2 + m) (64 + 32 * m) =
      brings_more texts service_path deep (substack_content a) (odd_contents (a + 1 + 1) m) 2 m 64 (32 * m)
      (λ n. leading_passes a (omega arith) (omega (arith, e)) leads ends 14 (by_rule service_path n)) more in
      subst (λ (ks : List ℕ). Brings texts service_path deep (map substack_content ks) (suc (suc m)) (32 * suc (suc m))) (sym (odds_of j m))
      (λ line. passes_within texts _ (2 + m) (suc (suc m)) (64 + 32 * m) (32 * suc (suc m)) (all line) (omega arith) (omega arith))

  abbrev files_number : ℕ
  files_number = count_of lines

  auth_passes : Passes texts (items texts 17 Auth as_service (plain_file service_path)) (1 + files_number) (32 * files_number)
  auth_passes = passes_file texts service_path (service files_number).text (service_contents files_number) own (holds_service lines most) 16 Auth as_service
      files_number (32 * files_number)
      (service_brings 0 files_number (omega arith) 1)

  -- it has no rules of another type
  nothing : (type : RuleType) (deeper : Opener → RuleFile → List Item) → serves type (Some Auth) ≡ false → (n : ℕ) (contents : List RuleContent)
      → items_of deeper type service_path (entries_from n contents) ≡ []
  nothing type deeper e n [] = refl
  nothing type deeper e n (c ∷ contents) =
      let more = items_of deeper type service_path (entries_from (n + 1) contents) in
      ap (λ (b : Bool). cond b (content_items deeper service_path n c) [] ++ more) e ∙ nothing type deeper e (n + 1) contents

  other_type_passes : (type : RuleType) → serves type (Some Auth) ≡ false → Passes texts (items texts 17 type as_service (plain_file service_path)) 1 0
  other_type_passes type e = passes_within texts _ (1 + 0) 1 0 0
      (passes_file texts service_path (service files_number).text (service_contents files_number) own (holds_service lines most) 16 type as_service 0 0
      (subst (λ (is : List Item). Passes texts is 0 0) (sym (nothing type (items texts 16 type) e 1 (service_contents files_number))) (passes_none texts)))
      (omega arith) (omega arith)

  -- ---- the service `other`, which doesn't exist

  abbrev other_file : RuleFile
  other_file = plain_file (codes "/etc/pam.d/other")

  other_held : held texts other_file ≡ absent
  other_held = ap (held_text None) other

  opener_is : other_opener texts (plain_file service_path) ≡ as_other
  opener_is = ap (λ (x : FileContent). cond (is_absent x) (as_last service_path) as_other)
      (held_is texts service_path (service files_number).text (service_contents files_number) own (holds_service lines most))

  other_passes : (type : RuleType) → Passes texts (items texts 17 type (other_opener texts (plain_file service_path)) other_file) 1 0
  unfolding items
  other_passes type =
      let deeper = items texts 16 type in
      let rest : file_items deeper type other_file (rules_held (held texts other_file)) ≡ [] =
      ap (λ (x : FileContent). file_items deeper type other_file (rules_held x)) other_held in
      let opens : Passes texts (opening other_file 0 as_other ∷ []) 1 0 =
      passes_opening texts other_file 0 as_other (omega arith) (λ c. ap (held_file (asked c) other_file as_other) other_held) in
      subst (λ (opener : Opener). Passes texts (items texts 17 type opener other_file) 1 0) (sym opener_is)
      (subst (λ (is : List Item). Passes texts (opening other_file 0 as_other ∷ is) 1 0) (sym rest) opens)

  perhaps : (b : Bool) (is : List Item) → Passes texts is 1 0 → Passes texts (cond b is []) 1 0
  perhaps true is passes = passes
  perhaps false is passes = passes_within texts [] 0 1 0 0 (passes_none texts) (omega arith) (omega arith)

  -- ---- the four stacks

  -- the lines of each stack are counted from 0
  abbrev Treed : List Item → ℕ → Type 0
  Treed is opens = (c : Counts) → c.openings + opens ≤ 256 → (d : Counts) × (look texts [] c is ≡ Ok d) × (d.openings ≤ c.openings + opens)

  treed : (type : RuleType) (opens made : ℕ) → made ≤ 4096 → Passes texts (items texts 17 type as_service (plain_file service_path)) opens made
      → Treed (tree_items texts (plain_file service_path) other_file type) (opens + 1)
  unfolding look
  treed type opens made few passes c room =
      let mine = items texts 17 type as_service (plain_file service_path) in
      let others = cond (count (nodes texts 17 type (plain_file service_path)) == 0)
      (items texts 17 type (other_opener texts (plain_file service_path)) other_file) [] in
      let start : Counts = record c { lines = 0 } in
      let p : Passed texts start (mine ++ others) (opens + 1) (made + 0) =
      passes_then texts mine others opens 1 made 0 passes (perhaps _ _ (other_passes type)) start (omega (arith, room)) (omega (arith, few)) in
      (p.after, p.looks, p.openings_are)

  treed_then : (xs ys : List Item) (a b : ℕ) → Treed xs a → Treed ys b → Treed (xs ++ ys) (a + b)
  treed_then xs ys a b first second c room =
      let p = first c (omega (arith, room)) in
      let q = second p.0 (omega (arith, p.2, room)) in
      (q.0, look_then texts xs ys c p.0 p.1 ∙ q.1, omega (arith, p.2, q.2))

  treed_none : Treed [] 0
  unfolding look
  treed_none c room = (c, refl, omega arith)

  abbrev tree_at : RuleType → List Item
  tree_at type = tree_items texts (plain_file service_path) other_file type

  pub looked : (calls : ℕ) → (d : Counts) × (look texts [] (record { calls = calls; openings = 0; lines = 0 })
      (trees_items texts (plain_file service_path) other_file) ≡ Ok d)
  looked calls =
      let session = treed_then (tree_at Session) [] (1 + 1) 0 (treed Session 1 0 (omega arith) (other_type_passes Session refl)) treed_none in
      let password = treed_then (tree_at Password) (tree_at Session ++ []) (1 + 1) (1 + 1 + 0)
      (treed Password 1 0 (omega arith) (other_type_passes Password refl)) session in
      let account = treed_then (tree_at Account) (tree_at Password ++ (tree_at Session ++ [])) (1 + 1) (1 + 1 + (1 + 1 + 0))
      (treed Account 1 0 (omega arith) (other_type_passes Account refl)) password in
      let all = treed_then (tree_at Auth) (tree_at Account ++ (tree_at Password ++ (tree_at Session ++ []))) (1 + files_number + 1)
      (1 + 1 + (1 + 1 + (1 + 1 + 0)))
      (treed Auth (1 + files_number) (32 * files_number) (omega (arith, most)) auth_passes) account in
      let r = all (record { calls = calls; openings = 0; lines = 0 }) (omega (arith, most)) in
      (r.0, r.1)

-- ---- the files that are stored if there is no file yet

module _ (seed lines : ℕ) (most : lines ≤ 4096) (locks : Locks) (calls : ℕ) where
  abbrev vault : VaultState
  vault = vault_with (all seed lines most) locks calls

  pub loads : (d : Counts) × (loaded vault (codes "/") (codes "gen") ≡ Ok d)
  unfolding path_of
  loads =
      let texts = texts_of (codes "/") vault in
      let l = looked texts seed lines most (file_found seed lines most) (service_found seed lines most) (other_absent seed lines most) (next_count calls) in
      let missing : Result Counts Stop = Err (record { fault = fault_at directory_name 0 ReadFailed; calls = next_count calls }) in (
        l.0,
        ap (λ (b : Bool). cond b missing (loaded_from (directory_exists vault (codes "/")) vault (codes "/") (codes "gen") (next_count calls))) (never calls)
            ∙ ap (λ (b : Bool). loaded_from b vault (codes "/") (codes "gen") (next_count calls)) (has_directory seed lines most)
            ∙ l.1,
      )
