-- One tree, and those of all types in turn.
use Rattle.std.proofs.Common.{◌≡◌, ℕ, ◌+◌, ◌<◌, ◌≤◌, Bool, true, false, not, cond, eqb, List, [], ◌∷◌, ◌++◌, length, drop, get_or, drop_of_length-le, Option, Result, Ok, Err, refl, ap, subst, ◌∙◌, arith}
use Rattle.std.proofs.lemmas.List.{drop_more}
use Rattle.std.proofs.lemmas.Bool.{eqb-true}
use Rattle.pam_base.specs.declared.fault.Refuse.{Refuse}
use Rattle.pam_base.specs.declared.fault.Refuse.TheVariants as refusals
use Rattle.pam_outside.specs.Counts.{next_count}
use Rattle.pam_outside.specs.Files.{VaultState, counted, is_failing, is_directory}
use Rattle.control_words.specs.declared.nodes.Nodes.{Nodes}
use Rattle.control_words.specs.Stack.{Stack, none, line, sub, joined, count, stack_of}
use Rattle.service_load.specs.declared.load_fault.LoadFault.{LoadFault}
use Rattle.service_load.specs.declared.loader.Loader.{Loader}
use Rattle.service_load.specs.declared.rule_file.RuleFile.{RuleFile}
use Rattle.service_load.specs.declared.rule_type.RuleType.{RuleType}
use Rattle.service_load.specs.Files.{held, is_absent}
use Rattle.service_load.specs.FirstFault.{Counts, look}
use Rattle.service_load.specs.Entry.{directory_name}
use Rattle.service_load.specs.Load.{AreBounded, LoadsBy, LoadsFrom, Loads, loaded_from, directory_exists}
use Rattle.pam_outside.specs.Paths.{path_of}
use Rattle.service_load.specs.Loading.{texts_of, counts_of, Looks, OnlyCalls, Brings, Grows, IsBounded, Makes, items_at, load_state, nodes_at}
use Rattle.std.specs.List.{flat_map}
use Rattle.service_load.specs.declared.rule_type.RuleType.TheVariants.{Auth, Account, Password, Session}
use Rattle.service_load.specs.Order.{Item, Opener, as_service, as_other, as_last, items, other_opener, tree_items, trees_items}
use Rattle.service_load.specs.RuleType.{all_types}
use Rattle.service_load.specs.Stacks.{Stacks, stacks_of, with_stack}
use Rattle.service_load.specs.Tree.{nodes, tree, tree_from}
use Rattle.service_load.specs.Trees.{Trees, stacks_of_trees, with_nodes}
use Rattle.service_load.proofs.FourStackFacts.{filled, filled_all, filled_next}
use Rattle.service_load.proofs.FileEntryFacts.{Since, since, look_past, look_stops}

empty-none : (s : Stack) → eqb (count s) 0 ≡ true → s ≡ none
empty-none none e = refl
empty-none (line rule rest) e = absurd (omega (arith, eqb-true (count rest + 1) 0 e))
empty-none (sub inner rest) e = absurd (omega (arith, eqb-true (count rest + 1) 0 e))

nil-append : (xs : List Item) → xs ++ [] ≡ xs
nil-append [] = refl
nil-append (x ∷ xs) = ap (λ (l : List Item). x ∷ l) (nil-append xs)

opener_is : (there absent : Bool) (name : List ℕ) → there ≡ not absent → cond there as_other (as_last name) ≡ cond absent (as_last name) as_other
opener_is there true name e = rw e refl
opener_is there false name e = rw e refl

pub bounded_one : (was is : Loader) (stack : Stack) → was.lines ≡ 0 → Grows 0 was is none stack → IsBounded stack
bounded_one was is stack zero g = record { lines = omega (arith, g.lines, g.few (omega (arith, zero)), zero); deep = g.deep 16 (omega arith) (omega arith) }

pub bounded_two : (was mid is : Loader) (own stack : Stack) → was.lines ≡ 0 → Grows 0 was mid none own → Grows 0 mid is own stack → IsBounded stack
bounded_two was mid is own stack zero g h = record {
  lines = omega (arith, g.lines, h.lines, h.few (g.few (omega (arith, zero))), zero);
  deep = h.deep 16 (g.deep 16 (omega arith) (omega arith)) (omega arith);
}

module _ (root : List ℕ) (first : VaultState) (was : Loader) (own other : RuleFile) (type : RuleType) where
  abbrev texts : List ℕ → Option (List ℕ)
  texts = texts_of root first

  -- the counts as the tree begins
  abbrev fresh : Counts
  fresh = counts_of (record was { lines = 0 }) first

  -- what the file of `other` adds, if it is opened
  abbrev others : List Item
  others = cond (eqb (count (nodes texts 17 type own)) 0) (items texts 17 type (other_opener texts own) other) []

  begins : look texts first.fails (counts_of was first) (tree_items texts own other type) ≡ look texts first.fails fresh (items_at texts 0 type as_service own ++ others)
  unfolding look
  begins = refl

  -- the service has nodes of the type
  pub makes_own : (made : Nodes) (now : VaultState) (is : Loader)
      → look texts first.fails fresh (items_at texts 0 type as_service own) ≡ Ok (counts_of is now)
      → stack_of made.vec.items ≡ nodes_at texts 0 type own → eqb (count (stack_of made.vec.items)) 0 ≡ false → OnlyCalls first now
      → Makes (Ok made) texts (load_state was first) (load_state is now) own other type
  makes_own made now is looks made_is some only =
      let some_own : eqb (count (nodes texts 17 type own)) 0 ≡ false = rw made_is at some in
      record {
        looks = begins ∙ rw (some_own, nil-append (items_at texts 0 type as_service own)) looks;
        made = made_is ∙ rw some_own refl;
        stays = only;
      }

  pub stop_own : (r : Refuse LoadFault) (now : VaultState) (is : Loader)
      → Looks {A = Bool} (Err r) (look texts first.fails fresh (items_at texts 0 type as_service own)) (counts_of is now) → OnlyCalls first now
      → Makes (Err r) texts (load_state was first) (load_state is now) own other type
  stop_own (refusals.Named f) now is looks only = record { looks = begins ∙ look_stops texts first.fails fresh (record { fault = f; calls = now.calls }) (items_at texts 0 type as_service own) others looks; made = tt; stays = only }
  stop_own refusals.NoMemory now is looks only = record { looks = tt; made = tt; stays = only }

  module _ (mid now : VaultState) (half is : Loader) (stack : Stack) (there : Bool) (passed : look texts first.fails fresh (items_at texts 0 type as_service own) ≡ Ok (counts_of half mid)) (stack_is : stack ≡ nodes_at texts 0 type own) (empty : eqb (count stack) 0 ≡ true) (there_is : there ≡ not (is_absent (held texts own))) where
    abbrev opener : Opener
    opener = cond there as_other (as_last own.name)

    on_to_other : look texts first.fails (counts_of was first) (tree_items texts own other type) ≡ look texts first.fails (counts_of half mid) (items_at texts 0 type opener other)
    on_to_other =
        let empty_own : eqb (count (nodes texts 17 type own)) 0 ≡ true = rw stack_is at empty in
        begins ∙ look_past texts first.fails fresh (counts_of half mid) (items_at texts 0 type as_service own) others passed
        ∙ rw (empty_own, opener_is there (is_absent (held texts own)) own.name there_is) refl

    -- the nodes are those of `other`
    pub makes_other : (made : Nodes) → look texts first.fails (counts_of half mid) (items_at texts 0 type opener other) ≡ Ok (counts_of is now)
        → stack_of made.vec.items ≡ joined stack (nodes_at texts 0 type other) → OnlyCalls first now
        → Makes (Ok made) texts (load_state was first) (load_state is now) own other type
    makes_other made looks made_is only =
        let empty_own : eqb (count (nodes texts 17 type own)) 0 ≡ true = rw stack_is at empty in
        record {
          looks = on_to_other ∙ looks;
          made = made_is ∙ ap (λ (s : Stack). joined s (nodes_at texts 0 type other)) (empty-none stack empty) ∙ rw empty_own refl;
          stays = only;
        }

    pub stop_other : (r : Refuse LoadFault)
        → Looks {A = Bool} (Err r) (look texts first.fails (counts_of half mid) (items_at texts 0 type opener other)) (counts_of is now)
        → OnlyCalls first now → Makes (Err r) texts (load_state was first) (load_state is now) own other type
    stop_other (refusals.Named f) looks only = record { looks = on_to_other ∙ looks; made = tt; stays = only }
    stop_other refusals.NoMemory looks only = record { looks = tt; made = tt; stays = only }

-- what the file of `other` adds, stated for the files as they were
pub other_since : (r : Result Bool (Refuse LoadFault)) (root : List ℕ) (first mid now : VaultState) (half is : Loader) (own other : RuleFile) (type : RuleType) (there : Bool) (before after : Stack)
    → OnlyCalls first mid
    → Brings r (texts_of root mid) (load_state half mid) (load_state is now)
    (items_at (texts_of root mid) 0 type (cond there as_other (as_last own.name)) other) before after (nodes_at (texts_of root mid) 0 type other)
    → Since r root first mid now half is (items_at (texts_of root first) 0 type (cond there as_other (as_last own.name)) other) before after (nodes_at (texts_of root first) 0 type other)
other_since r root first mid now half is own other type there before after =
    since r root first mid now half is (λ texts. items_at texts 0 type (cond there as_other (as_last own.name)) other) before after (λ texts. nodes_at texts 0 type other)

-- ---- the trees of the types in turn

pub only_only : (a b c : VaultState) → OnlyCalls a b → OnlyCalls b c → OnlyCalls a c
only_only a b c one two = two ∙ ap (λ (v : VaultState). record v { calls = c.calls }) one

-- a later tree, stated for the files as they were
pub makes_since : (r : Result Nodes (Refuse LoadFault)) (root : List ℕ) (first old new : VaultState) (was is : Loader) (own other : RuleFile) (type : RuleType)
    → OnlyCalls first old → Makes r (texts_of root old) (load_state was old) (load_state is new) own other type
    → Makes r (texts_of root first) (load_state was (record first { calls = old.calls })) (load_state is new) own other type
makes_since r root first old new was is own other type only makes =
    let P : VaultState → Type 0 = λ v. Makes r (texts_of root v) (load_state was v) (load_state is new) own other type in
    subst P only makes

-- the check of nothing more
look_none : (texts : List ℕ → Option (List ℕ)) (fails : List ℕ) (counts : Counts) → look texts fails counts [] ≡ Ok counts
unfolding look
look_none texts fails counts = refl

-- Over the files as they were at first, the trees of some types were made, and those of the types that are left come
-- next.
pub record Making (root : List ℕ) (first new : VaultState) (start : Counts) (is : Loader) (own other : RuleFile) (trees : Trees) (left : List RuleType) : Type 0 where
  pub looks : look (texts_of root first) first.fails start (trees_items (texts_of root first) own other)
      ≡ look (texts_of root first) first.fails (counts_of is new) (flat_map (tree_items (texts_of root first) own other) left)
  pub made : filled (tree_from (texts_of root first) own other) left (stacks_of_trees trees) ≡ stacks_of (tree_from (texts_of root first) own other)
  pub stays : OnlyCalls first new

pub making_none : (root : List ℕ) (first : VaultState) (was : Loader) (own other : RuleFile) (trees : Trees)
    → Making root first first (counts_of was first) was own other trees all_types
making_none root first was own other trees = record { looks = refl; made = refl; stays = refl }

put_stacks : (trees : Trees) (type : RuleType) (given : Nodes) → stacks_of_trees (with_nodes trees type given) ≡ with_stack (stacks_of_trees trees) type (stack_of given.vec.items)
put_stacks trees Auth given = refl
put_stacks trees Account given = refl
put_stacks trees Password given = refl
put_stacks trees Session given = refl

-- one more tree
pub making_next : (root : List ℕ) (first old new : VaultState) (start : Counts) (was is : Loader) (own other : RuleFile) (trees after : Trees) (given : Nodes) (i : ℕ) (d : RuleType)
    → i < length all_types → Making root first old start was own other trees (drop i all_types)
    → Makes (Ok given) (texts_of root old) (load_state was old) (load_state is new) own other (get_or all_types i d)
    → after ≡ with_nodes trees (get_or all_types i d) given
    → Making root first new start is own other after (drop (i + 1) all_types)
making_next root first old new start was is own other trees after given i d within h makes put =
    let texts = texts_of root first in
    let type = get_or all_types i d in
    let rest = drop (i + 1) all_types in
    let next = drop_more all_types i d within in
    let m = makes_since (Ok given) root first old new was is own other type h.stays makes in
    record {
      looks = h.looks ∙ ap (λ (types : List RuleType). look texts first.fails (counts_of was old) (flat_map (tree_items texts own other) types)) next
          ∙ look_past texts first.fails (counts_of was old) (counts_of is new) (tree_items texts own other type) (flat_map (tree_items texts own other) rest) m.looks;
      made = filled_next (tree_from texts own other) _ _ _ i d within h.made
          (ap stacks_of_trees put ∙ put_stacks trees type given ∙ ap (with_stack (stacks_of_trees trees) type) m.made);
      stays = m.stays;
    }

-- a refusal in a tree, unless memory ran out, is the first fault of the whole load
pub making_stops : (r : Refuse LoadFault) (root : List ℕ) (first old new : VaultState) (start : Counts) (was is : Loader) (own other : RuleFile) (trees : Trees) (i : ℕ) (d : RuleType)
    → i < length all_types → Making root first old start was own other trees (drop i all_types)
    → Makes (Err r) (texts_of root old) (load_state was old) (load_state is new) own other (get_or all_types i d)
    → LoadsBy (Err r) (look (texts_of root first) first.fails start (trees_items (texts_of root first) own other)) new (tree_from (texts_of root first) own other)
making_stops (refusals.Named f) root first old new start was is own other trees i d within h makes =
    let texts = texts_of root first in
    let type = get_or all_types i d in
    let rest = drop (i + 1) all_types in
    let m = makes_since (Err (refusals.Named f)) root first old new was is own other type h.stays makes in
    h.looks ∙ ap (λ (types : List RuleType). look texts first.fails (counts_of was old) (flat_map (tree_items texts own other) types)) (drop_more all_types i d within)
    ∙ look_stops texts first.fails (counts_of was old) (record { fault = f; calls = new.calls }) (tree_items texts own other type) (flat_map (tree_items texts own other) rest) m.looks
making_stops refusals.NoMemory root first old new start was is own other trees i d within h makes = tt

pub making_keeps : (r : Refuse LoadFault) (root : List ℕ) (first old new : VaultState) (start : Counts) (was is : Loader) (own other : RuleFile) (trees : Trees) (left : List RuleType) (type : RuleType)
    → Making root first old start was own other trees left → Makes (Err r) (texts_of root old) (load_state was old) (load_state is new) own other type → OnlyCalls first new
making_keeps r root first old new start was is own other trees left type h makes = only_only first old new h.stays makes.stays

-- all are made: these are the trees of the whole load
pub making_all : (root : List ℕ) (first new : VaultState) (start : Counts) (is : Loader) (own other : RuleFile) (trees : Trees) (i : ℕ)
    → length all_types ≤ i → Making root first new start is own other trees (drop i all_types)
    → LoadsBy (Ok trees) (look (texts_of root first) first.fails start (trees_items (texts_of root first) own other)) new (tree_from (texts_of root first) own other)
making_all root first new start is own other trees i past h =
    let texts = texts_of root first in
    let are = filled_all (tree_from texts own other) (stacks_of_trees trees) i past h.made in
    record {
      counts = counts_of is new;
      no_fault = h.looks ∙ ap (λ (types : List RuleType). look texts first.fails (counts_of is new) (flat_map (tree_items texts own other) types)) (drop_of_length-le all_types past)
          ∙ look_none texts first.fails (counts_of is new);
      calls = refl;
      trees_are = record { auth = ap (λ (s : Stacks). s.auth) are; account = ap (λ (s : Stacks). s.account) are; password = ap (λ (s : Stacks). s.password) are; session = ap (λ (s : Stacks). s.session) are };
    }

empty_is_bounded : (s : Stack) → s ≡ none → IsBounded s
empty_is_bounded s e = rw e (record { lines = omega arith; deep = omega arith })

pub bounded_new : (trees : Trees) → stacks_of_trees trees ≡ stacks_of (λ _. none) → AreBounded trees
bounded_new trees e = record {
  auth = empty_is_bounded _ (ap (λ (s : Stacks). s.auth) e);
  account = empty_is_bounded _ (ap (λ (s : Stacks). s.account) e);
  password = empty_is_bounded _ (ap (λ (s : Stacks). s.password) e);
  session = empty_is_bounded _ (ap (λ (s : Stacks). s.session) e);
}

bounded_put : (trees : Trees) (type : RuleType) (given : Nodes) → AreBounded trees → IsBounded (stack_of given.vec.items) → AreBounded (with_nodes trees type given)
bounded_put trees Auth given were is = record { auth = is; account = were.account; password = were.password; session = were.session }
bounded_put trees Account given were is = record { auth = were.auth; account = is; password = were.password; session = were.session }
bounded_put trees Password given were is = record { auth = were.auth; account = were.account; password = is; session = were.session }
bounded_put trees Session given were is = record { auth = were.auth; account = were.account; password = were.password; session = is }

pub bounded_next : (trees after : Trees) (type : RuleType) (given : Nodes) → after ≡ with_nodes trees type given → AreBounded trees → IsBounded (stack_of given.vec.items) → AreBounded after
bounded_next trees after type given put were is = rw put (bounded_put trees type given were is)

-- ---- the whole load

pub loads_all : (result : Result Trees (Refuse LoadFault)) (first mid new : VaultState) (root service path : List ℕ) (found : Bool)
    → is_failing first ≡ false → found ≡ is_directory path first.files → path ≡ path_of root directory_name → mid ≡ counted first
    → LoadsFrom result found mid new root service → Loads result first new root service
loads_all result first mid new root service path found fine found_is path_is called loads =
    let P : VaultState → Type 0 = λ v. LoadsFrom result found v new root service in
    let Q : Bool → Type 0 = λ b. LoadsBy result (loaded_from b first root service (next_count first.calls)) new (tree (texts_of root first) b service) in
    let at_first : Q found = subst P called loads in
    let folder : found ≡ directory_exists first root = found_is ∙ ap (λ (p : List ℕ). is_directory p first.files) path_is in
    rw fine (subst Q folder at_first)
