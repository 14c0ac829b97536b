-- The four printed stacks load to themselves.
use Rattle.std.proofs.Common.{◌≡◌, ℕ, ◌+◌, ◌-◌, ◌≤◌, ◌<◌, ◌^◌, Bool, true, false, cond, eqb, nat_lt, List, [], ◌∷◌, ◌++◌, Option, None, Ok, refl, sym, ap, ◌∙◌, subst, arith, append-nil, add-zero, zero-add, add_assoc, inl, inr, ◌⊎◌}
use Rattle.std.specs.Prelude.{codes}
use Rattle.std.specs.List.{flat_map}
use Rattle.std.specs.Str.{str_to_ascii_lowercase}
use Rattle.std.proofs.lemmas.Bool.{cases_Bool, and_right, lt-leb, eqb-true}
use Rattle.pam_base.specs.Counts.{next_count}
use Rattle.control_words.specs.Stack.{Stack, none, line, sub, count, depth, lines_in}
use Rattle.service_load.specs.declared.rule_type.RuleType.{RuleType}
use Rattle.service_load.specs.Files.{plain_file, FileContent, is_absent}
use Rattle.service_load.specs.FirstFault.{Counts, look}
use Rattle.service_load.specs.Order.{Opener, as_service, as_other, as_last, Item, begin, items, other_opener, tree_items, order}
use Rattle.service_load.specs.RuleType.{all_types}
use Rattle.service_load.specs.Tree.{nodes, tree_of, tree}
use Rattle.service_print.specs.Printed.{subs_in}
use Rattle.service_print.proofs.Understood.{AllWritable, in_the_directory}
use Rattle.service_print.proofs.Stacked.{IsFile, file_nodes}
use Rattle.service_print.proofs.PrintedStackFacts.{Stand, stack_stands, Passes, counts_with, pass-append, pass_none, pass_file, pass_stack}
use Rattle.service_print.proofs.Segments.{all_meanings, part_of}

-- the conditions under which four stacks can be printed and load again
pub record IsPrintable (stack : RuleType → Stack) : Type 0 where
  pub writable : (type : RuleType) → AllWritable (stack type)
  pub deep : (type : RuleType) → depth (stack type) ≤ 16
  pub few : (type : RuleType) → lines_in (stack type) ≤ 4096

-- an opening for the service's file, one for each substack, and one for `other` if the stack is empty
abbrev pub openings_for : Stack → ℕ
openings_for stack = 1 + subs_in stack + cond (eqb (count stack) 0) 1 0

abbrev pub openings_of : (RuleType → Stack) → List RuleType → ℕ
openings_of stack [] = 0
openings_of stack (type ∷ types) = openings_for (stack type) + openings_of stack types

no_count : (stack : Stack) → count stack ≡ 0 → stack ≡ none
no_count none is = refl
no_count (line rule rest) is = absurd (omega arith)
no_count (sub inner rest) is = absurd (omega arith)

-- ---- a service with its file and the files of its substacks

-- `other` doesn't exist, or is the service itself
abbrev pub OtherIs : (List ℕ → Option (List ℕ)) → List ℕ → Type 0
OtherIs texts service = (texts (in_the_directory (codes "other")) ≡ None) ⊎ (service ≡ codes "other")

pub record Stands (texts : List ℕ → Option (List ℕ)) (service : List ℕ) (stack : RuleType → Stack) : Type 0 where
  pub file : IsFile texts (in_the_directory service) (all_meanings stack service 1 all_types)
  pub subs : (type : RuleType) → Stand texts type service (part_of stack service type).start (stack type)
  pub other : OtherIs texts service

module _ (texts : List ℕ → Option (List ℕ)) (service : List ℕ) (stack : RuleType → Stack) where
  own_nodes : Stands texts service stack → IsPrintable stack → (type : RuleType) → nodes texts 17 type (plain_file (in_the_directory service)) ≡ stack type
  own_nodes stands is type =
      let part = part_of stack service type in
      file_nodes texts 16 type (in_the_directory service) (all_meanings stack service 1 all_types) stands.file
      ∙ part.nodes (λ name. nodes texts 16 type (plain_file name))
      ∙ stack_stands texts type service part.start 16 (stack type) (is.deep type) (stands.subs type)

  absent_nodes : (type : RuleType) → texts (in_the_directory (codes "other")) ≡ None → nodes texts 17 type (plain_file (in_the_directory (codes "other"))) ≡ none
  unfolding nodes
  absent_nodes type gone = rw gone refl

  -- the result for `other`, if it is opened
  other_nodes : Stands texts service stack → IsPrintable stack → (type : RuleType) → count (stack type) ≡ 0
      → nodes texts 17 type (plain_file (in_the_directory (codes "other"))) ≡ stack type
  other_nodes stands is type empty = elim stands.other [
    | inl gone ↦ absent_nodes type gone ∙ sym (no_count (stack type) empty)
    | inr same ↦ ap (λ (s : List ℕ). nodes texts 17 type (plain_file (in_the_directory s))) (sym same) ∙ own_nodes stands is type
  ]

  pub tree_is : Stands texts service stack → IsPrintable stack → str_to_ascii_lowercase service ≡ service → (type : RuleType)
      → tree texts true service type ≡ stack type
  tree_is stands is lower type =
      let own : nodes texts 17 type (plain_file (in_the_directory (str_to_ascii_lowercase service))) ≡ stack type = ap (λ (s : List ℕ). nodes texts 17 type (plain_file (in_the_directory s))) lower ∙ own_nodes stands is type in
      ap (λ (s : Stack). tree_of s (nodes texts 17 type (plain_file (in_the_directory (codes "other"))))) own
      ∙ (elim (cases_Bool (eqb (count (stack type)) 0)) [
        | inl y ↦ rw y (other_nodes stands is type (eqb-true (count (stack type)) 0 y))
        | inr n ↦ rw n refl
      ])

  -- ---- the check

  pass_own : Stands texts service stack → IsPrintable stack → (type : RuleType) (opener : Opener) (calls openings : ℕ)
      → openings + 1 + subs_in (stack type) ≤ 256
      → Passes texts (counts_with calls openings 0) (items texts 17 type opener (plain_file (in_the_directory service))) (openings + 1 + subs_in (stack type)) (lines_in (stack type))
  pass_own stands is type opener calls openings few =
      let part = part_of stack service type in
      let same = part.items texts 16 (in_the_directory service) 1 in
      pass_file texts 16 type opener (in_the_directory service) (all_meanings stack service 1 all_types) stands.file calls openings 0 (openings + 1 + subs_in (stack type)) (lines_in (stack type)) (omega arith)
      (λ calls'.
      let along = pass_stack texts type service part.start 16 (stack type) (in_the_directory service) same.first calls' (openings + 1) 0 (is.deep type) (stands.subs type) few (omega (arith, is.few type)) in
      record { calls = along.calls; looks = ap (look texts [] (counts_with calls' (openings + 1) 0)) same.same ∙ along.looks ∙ ap (λ n. Ok (counts_with along.calls (openings + 1 + subs_in (stack type)) n)) (zero-add (lines_in (stack type))) })

  pass_absent : (type : RuleType) (calls openings : ℕ) → openings < 256 → texts (in_the_directory (codes "other")) ≡ None
      → Passes texts (counts_with calls openings 0) (items texts 17 type as_other (plain_file (in_the_directory (codes "other")))) (openings + 1) 0
  unfolding items look
  pass_absent type calls openings few gone = record {
    calls = next_count calls;
    looks = rw (gone, lt-leb 256 openings few, and_right (nat_lt calls (2 ^ 64 - 1)) false refl) refl;
  }

  pass_other : Stands texts service stack → IsPrintable stack → (type : RuleType) (calls openings : ℕ) → openings < 256 → count (stack type) ≡ 0
      → Passes texts (counts_with calls openings 0) (items texts 17 type as_other (plain_file (in_the_directory (codes "other")))) (openings + 1) 0
  pass_other stands is type calls openings few empty = elim stands.other [
    | inl gone ↦ pass_absent type calls openings few gone
    | inr same ↦
        let none_left = no_count (stack type) empty in
        let subs : subs_in (stack type) ≡ 0 = ap subs_in none_left in
        let lines : lines_in (stack type) ≡ 0 = ap lines_in none_left in
        let own = pass_own stands is type as_other calls openings (omega (arith, subs)) in
        record {
          calls = own.calls;
          looks = ap (λ (s : List ℕ). look texts [] (counts_with calls openings 0) (items texts 17 type as_other (plain_file (in_the_directory s)))) (sym same) ∙ own.looks
              ∙ ap (λ n. Ok (counts_with own.calls (openings + 1 + n) (lines_in (stack type)))) subs
              ∙ ap (λ n. Ok (counts_with own.calls (openings + 1 + 0) n)) lines
              ∙ ap (λ n. Ok (counts_with own.calls n 0)) (add-zero (openings + 1));
        }
  ]

  -- a tree begins
  pass_begin : (calls openings lines : ℕ) → Passes texts (counts_with calls openings lines) (begin ∷ []) openings 0
  unfolding look
  pass_begin calls openings lines = record { calls = calls; looks = refl }

  own_present : Stands texts service stack → other_opener texts (plain_file (in_the_directory service)) ≡ as_other
  own_present stands = ap (λ (h : FileContent). cond (is_absent h) (as_last (in_the_directory service)) as_other) stands.file.held_is

  abbrev own_file_items : RuleType → List Item
  own_file_items type = items texts 17 type as_service (plain_file (in_the_directory service))

  abbrev other_file_items : RuleType → List Item
  other_file_items type = items texts 17 type as_other (plain_file (in_the_directory (codes "other")))

  abbrev items_of_tree : RuleType → List Item
  items_of_tree type = tree_items texts (plain_file (in_the_directory service)) (plain_file (in_the_directory (codes "other"))) type

  tree_with_other : Stands texts service stack → IsPrintable stack → (type : RuleType) → eqb (count (stack type)) 0 ≡ true
      → items_of_tree type ≡ begin ∷ (own_file_items type ++ other_file_items type)
  tree_with_other stands is type empty = rw (own_nodes stands is type, empty, own_present stands) refl

  tree_alone : Stands texts service stack → IsPrintable stack → (type : RuleType) → eqb (count (stack type)) 0 ≡ false
      → items_of_tree type ≡ begin ∷ own_file_items type
  tree_alone stands is type some = rw (own_nodes stands is type, some) (ap (λ (is : List Item). begin ∷ is) (append-nil (own_file_items type)))

  -- one tree, depending on whether its stack is empty
  pass_tree : Stands texts service stack → IsPrintable stack → (type : RuleType) (calls openings lines : ℕ) → openings + openings_for (stack type) ≤ 256
      → Passes texts (counts_with calls openings lines) (items_of_tree type) (openings + openings_for (stack type)) (lines_in (stack type))
  pass_tree stands is type calls openings lines few =
      elim (cases_Bool (eqb (count (stack type)) 0)) [
        | inl y ↦
            let extra : openings_for (stack type) ≡ 1 + subs_in (stack type) + 1 = ap (λ (b : Bool). 1 + subs_in (stack type) + cond b 1 0) y in
            let empty = no_count (stack type) (eqb-true (count (stack type)) 0 y) in
            let no_lines : lines_in (stack type) ≡ 0 = ap lines_in empty in
            let one = pass_begin calls openings lines in
            let two = pass_own stands is type as_service one.calls openings (omega (arith, few, extra)) in
            let three = pass_other stands is type two.calls (openings + 1 + subs_in (stack type)) (omega (arith, few, extra)) (eqb-true (count (stack type)) 0 y) in
            let three' : Passes texts (counts_with two.calls (openings + 1 + subs_in (stack type)) (lines_in (stack type))) (items texts 17 type as_other (plain_file (in_the_directory (codes "other")))) (openings + 1 + subs_in (stack type) + 1) 0 =
            subst (λ n. Passes texts (counts_with two.calls (openings + 1 + subs_in (stack type)) n) (items texts 17 type as_other (plain_file (in_the_directory (codes "other")))) (openings + 1 + subs_in (stack type) + 1) 0) (sym no_lines) three in
            let both = pass-append texts (counts_with one.calls openings 0) (own_file_items type) (items texts 17 type as_other (plain_file (in_the_directory (codes "other")))) (openings + 1 + subs_in (stack type)) (lines_in (stack type)) (openings + 1 + subs_in (stack type) + 1) 0 two three' in
            let whole = pass-append texts (counts_with calls openings lines) (begin ∷ []) (own_file_items type ++ items texts 17 type as_other (plain_file (in_the_directory (codes "other")))) openings 0 (openings + 1 + subs_in (stack type) + 1) 0 one both in
            let sum : openings + 1 + subs_in (stack type) + 1 ≡ openings + openings_for (stack type) = omega (arith, extra) in
            record {
              calls = whole.calls;
              looks =
                  ap (look texts [] (counts_with calls openings lines)) (tree_with_other stands is type y) ∙ whole.looks
                  ∙ ap (λ n. Ok (counts_with whole.calls n 0)) sum ∙ ap (λ n. Ok (counts_with whole.calls (openings + openings_for (stack type)) n)) (sym no_lines);
            }
        | inr n ↦
            let extra : openings_for (stack type) ≡ 1 + subs_in (stack type) + 0 = ap (λ (b : Bool). 1 + subs_in (stack type) + cond b 1 0) n in
            let one = pass_begin calls openings lines in
            let two = pass_own stands is type as_service one.calls openings (omega (arith, few, extra)) in
            let whole = pass-append texts (counts_with calls openings lines) (begin ∷ []) (own_file_items type) openings 0 (openings + 1 + subs_in (stack type)) (lines_in (stack type)) one two in
            let sum : openings + 1 + subs_in (stack type) ≡ openings + openings_for (stack type) = omega (arith, extra) in
            record {
              calls = whole.calls;
              looks = ap (look texts [] (counts_with calls openings lines)) (tree_alone stands is type n) ∙ whole.looks ∙ ap (λ k. Ok (counts_with whole.calls k (lines_in (stack type)))) sum;
            }
      ]

  pass_trees : Stands texts service stack → IsPrintable stack → (types : List RuleType) (calls openings lines : ℕ) → openings + openings_of stack types ≤ 256
      → (last : ℕ) × Passes texts (counts_with calls openings lines) (flat_map items_of_tree types) (openings + openings_of stack types) last
  pass_trees stands is [] calls openings lines few = (lines, subst (λ n. Passes texts (counts_with calls openings lines) [] n lines) (sym (add-zero openings)) (pass_none texts calls openings lines))
  pass_trees stands is (type ∷ types) calls openings lines few =
      let one = pass_tree stands is type calls openings lines (omega (arith, few)) in
      let more = pass_trees stands is types one.calls (openings + openings_for (stack type)) (lines_in (stack type)) (omega (arith, few)) in
      let whole = pass-append texts (counts_with calls openings lines) (items_of_tree type) (flat_map items_of_tree types) (openings + openings_for (stack type)) (lines_in (stack type)) (openings + openings_for (stack type) + openings_of stack types) more.0 one more.1 in
      (more.0, subst (λ n. Passes texts (counts_with calls openings lines) (flat_map items_of_tree (type ∷ types)) n more.0) (add_assoc openings (openings_for (stack type)) (openings_of stack types)) whole)

  ordered : str_to_ascii_lowercase service ≡ service → (calls : ℕ) (ends : Counts)
      → look texts [] (counts_with calls 0 0) (flat_map items_of_tree all_types) ≡ Ok ends
      → look texts [] (counts_with calls 0 0) (order texts true service) ≡ Ok ends
  ordered lower calls ends looked =
      ap (λ (s : List ℕ). look texts [] (counts_with calls 0 0) (flat_map (tree_items texts (plain_file (in_the_directory s)) (plain_file (in_the_directory (codes "other")))) all_types)) lower ∙ looked

  -- the whole order
  pub pass_order : Stands texts service stack → IsPrintable stack → str_to_ascii_lowercase service ≡ service → openings_of stack all_types ≤ 256 → (calls : ℕ)
      → (counts : Counts) × (look texts [] (counts_with calls 0 0) (order texts true service) ≡ Ok counts)
  pass_order stands is lower few calls =
      let all = pass_trees stands is all_types calls 0 0 (omega (arith, few)) in
      let ends = counts_with all.1.calls (0 + openings_of stack all_types) all.0 in
      (ends, ordered lower calls ends all.1.looks)
