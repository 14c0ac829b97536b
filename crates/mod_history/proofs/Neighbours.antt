-- Names in order: none occurs twice if none is the one before it.
use Rattle.std.proofs.Common.{◌≡◌, ℕ, Bool, true, false, ◌&&◌, ◌||◌, not, List, [], ◌∷◌, map, refl, sym, ◌∙◌, subst}
use Rattle.std.specs.List.{AllByRecursion, IsDistinct, dedup, dedup_from}
use Rattle.std.specs.List.Sorted.{IsPermutation, IsSorted, IsStrictlySortedBy}
use Rattle.std.specs.Ordering.{eq_by_cmp, nat_cmp}
use Rattle.std.specs.Cmp.Lexicographic.{slice_cmp, texts_ties}
use Rattle.std.specs.Str.{bytes_eq}
use Rattle.std.proofs.lemmas.Cmp.{nat_list_cmp_total, nat_list_eq_equiv}
use Rattle.std.proofs.lemmas.List.Kept.{IsStrictlySortedBy-dedup}
use Rattle.std.proofs.lemmas.List.Sorted.{IsPermutation-sym}
use Rattle.std.proofs.lemmas.Map.Keys.{IsDistinct-IsPermutation, IsDistinct-from_sorted}
use Rattle.mod_history.specs.declared.history.Remembered.{Remembered}
use Rattle.mod_history.specs.History.{are_distinct, has_name, neighbours_differ}

abbrev names : List Remembered → List (List ℕ)
names history = map (λ (r : Remembered). r.name) history

both_true : (a b : Bool) → (a && b) ≡ true → (a ≡ true) × (b ≡ true)
both_true true b e = (refl, e)
both_true false b e = absurd cc

neither : (a b : Bool) → (a || b) ≡ false → (a ≡ false) × (b ≡ false)
neither true b e = absurd cc
neither false b e = (refl, e)

is_false : (a : Bool) → not a ≡ true → a ≡ false
is_false true e = absurd cc
is_false false e = refl

flip : (x y : List ℕ) → bytes_eq x y ≡ bytes_eq y x
flip = nat_list_eq_equiv.symm

-- ---- the names of lines

later : (name : List ℕ) (rs : List Remembered) → has_name name rs ≡ false → AllByRecursion (λ y. bytes_eq name y ≡ false) (names rs)
later name [] e = tt
later name (r ∷ rs) e = let both = neither (bytes_eq r.name name) (has_name name rs) e in (flip name r.name ∙ both.0, later name rs both.1)

absent : (name : List ℕ) (rs : List Remembered) → AllByRecursion (λ y. bytes_eq name y ≡ false) (names rs) → has_name name rs ≡ false
absent name [] d = refl
absent name (r ∷ rs) d = rw (flip r.name name ∙ d.0, absent name rs d.1) refl

distinct_names : (history : List Remembered) → are_distinct history ≡ true → IsDistinct bytes_eq (names history)
unfolding IsDistinct
distinct_names [] e = tt
distinct_names (r ∷ rs) e =
    let both = both_true (not (has_name r.name rs)) (are_distinct rs) e in
    (later r.name rs (is_false (has_name r.name rs) both.0), distinct_names rs both.1)

distinct_lines : (history : List Remembered) → IsDistinct bytes_eq (names history) → are_distinct history ≡ true
unfolding IsDistinct
distinct_lines [] d = refl
distinct_lines (r ∷ rs) d = rw (absent r.name rs d.0, distinct_lines rs d.1) refl

-- ---- names in order

kept : (k : List ℕ) (xs : List (List ℕ)) → neighbours_differ (k ∷ xs) ≡ true → dedup_from bytes_eq k xs ≡ k ∷ xs
kept k [] e = refl
kept k (x ∷ xs) e =
    let both = both_true (not (bytes_eq x k)) (neighbours_differ (x ∷ xs)) e in
    rw (is_false (bytes_eq x k) both.0, kept x xs both.1) refl

all_kept : (xs : List (List ℕ)) → neighbours_differ xs ≡ true → dedup bytes_eq xs ≡ xs
all_kept [] e = refl
all_kept (x ∷ xs) e = kept x xs e

distinct : (xs : List (List ℕ)) → IsSorted (slice_cmp nat_cmp) xs → neighbours_differ xs ≡ true → IsDistinct bytes_eq xs
distinct xs order e =
    let strictly : IsStrictlySortedBy (slice_cmp nat_cmp) xs = subst (IsStrictlySortedBy (slice_cmp nat_cmp)) (all_kept xs e) (IsStrictlySortedBy-dedup nat_list_cmp_total texts_ties xs order) in
    let tied : eq_by_cmp (slice_cmp nat_cmp) ≡ bytes_eq = sym (λ i x y. texts_ties x y i) in
    subst (λ (same : List ℕ → List ℕ → Bool). IsDistinct same xs) tied (IsDistinct-from_sorted (slice_cmp nat_cmp) xs strictly)

apart : (xs : List (List ℕ)) → IsDistinct bytes_eq xs → neighbours_differ xs ≡ true
unfolding IsDistinct
apart [] d = refl
apart (x ∷ []) d = refl
apart (x ∷ y ∷ ys) d = rw (flip y x ∙ d.0.0, apart (y ∷ ys) d.1) refl

pub alike : (history : List Remembered) (texts sorted : List (List ℕ)) → texts ≡ names history → IsPermutation texts sorted → IsSorted (slice_cmp nat_cmp) sorted → neighbours_differ sorted ≡ are_distinct history
alike history texts sorted named moved order = by (neighbours_differ sorted) (are_distinct history) refl refl
  where
    there : are_distinct history ≡ true → IsDistinct bytes_eq sorted
    there e = IsDistinct-IsPermutation bytes_eq flip texts sorted moved (subst (IsDistinct bytes_eq) (sym named) (distinct_names history e))

    back : neighbours_differ sorted ≡ true → are_distinct history ≡ true
    back e = distinct_lines history (subst (IsDistinct bytes_eq) named (IsDistinct-IsPermutation bytes_eq flip sorted texts (IsPermutation-sym texts sorted moved) (distinct sorted order e)))

    by : (a b : Bool) → neighbours_differ sorted ≡ a → are_distinct history ≡ b → a ≡ b
    by true b e f = sym (back e) ∙ f
    by false true e f = absurd (let wrong : ◌≡◌ {A = Bool} true false = sym (apart sorted (there f)) ∙ e in cc)
    by false false e f = refl
