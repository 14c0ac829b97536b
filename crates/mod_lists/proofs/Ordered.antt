-- Values that are in order: one is looked up among them, and their order doesn't matter to what is listed.
use Rattle.std.proofs.Common.{◌≡◌, ℕ, zero, suc, ◌<◌, Bool, true, false, ◌||◌, List, [], ◌∷◌, length, get_or, Result, Ok, Err, refl, sym, ap, ◌∙◌, arith, ltb, Less, Greater}
use Rattle.std.specs.List.{list_any}
use Rattle.std.proofs.lemmas.Bool.{ltb-true, ltb-false}
use Rattle.std.specs.List.Sorted.{IsBinarySearchResult, IsPartitionPoint, IsPermutation, IsSearchInRange}
use Rattle.std.specs.Ordering.{is_eq, nat_cmp}
use Rattle.std.specs.Result.{is_ok}
use Rattle.std.specs.Cmp.Lexicographic.{slice_cmp, texts_ties}
use Rattle.std.specs.Str.{bytes_eq}
use Rattle.std.proofs.lemmas.Cmp.{nat_list_cmp_total}
use Rattle.std.proofs.lemmas.List.Sorted.{list_any-IsPermutation, searchable_from_sorted}
use Rattle.pam_base.specs.Lines.{lines_of}
use Rattle.account_db.specs.Shells.{without_end}
use Rattle.mod_lists.specs.Listfile.{AreInOrder, is_listed, is_value}

any_at : {X : Type 0} (p : X → Bool) (xs : List X) (i : ℕ) (d : X) → i < length xs → p (get_or xs i d) ≡ true → list_any p xs ≡ true
any_at p [] i d lt e = absurd (omega arith)
any_at p (x ∷ xs) zero d lt e = rw e refl
any_at p (x ∷ xs) (suc i) d lt e = let rest = any_at p xs i d (omega (arith, lt)) e in by (p x) rest
  where
    by : (b : Bool) → list_any p xs ≡ true → (b || list_any p xs) ≡ true
    by true rest = refl
    by false rest = rest

none_at : {X : Type 0} (p : X → Bool) (xs : List X) (d : X) → ((k : ℕ) → k < length xs → p (get_or xs k d) ≡ false) → list_any p xs ≡ false
none_at p [] d none = refl
none_at p (x ∷ xs) d none = let first : p x ≡ false = none 0 (omega arith) in
    rw first (none_at p xs d (λ k lt. none (suc k) (omega (arith, lt))))

-- a search among values in order finds whether one is equal
pub found : (values : List (List ℕ)) (text : List ℕ) (r : Result ℕ ℕ) → AreInOrder values → IsSearchInRange r (length values)
    → IsBinarySearchResult (λ v. slice_cmp nat_cmp v text) values r → is_ok r ≡ list_any (λ v. bytes_eq v text) values
found values text (Ok i) order within at =
    sym (any_at (λ v. bytes_eq v text) values i text within (texts_ties (get_or values i text) text ∙ ap is_eq (at text)))
found values text (Err i) order within at =
    let split = at (searchable_from_sorted nat_list_cmp_total (λ v. v) values text order) in
    sym (none_at (λ v. bytes_eq v text) values text (λ k lt. texts_ties (get_or values k text) text ∙ apart values text i k split lt))
  where
    apart : (values : List (List ℕ)) (text : List ℕ) (i k : ℕ)
        → IsPartitionPoint (λ v. slice_cmp nat_cmp v text ≡ Less) (λ v. slice_cmp nat_cmp v text ≡ Greater) values i
        → k < length values → is_eq (slice_cmp nat_cmp (get_or values k text) text) ≡ false
    apart values text i k split lt = by (ltb k i) refl
      where
        by : (b : Bool) → ltb k i ≡ b → is_eq (slice_cmp nat_cmp (get_or values k text) text) ≡ false
        by true e = ap is_eq (split.0 k text (omega arith) (ltb-true k i e))
        by false e = ap is_eq (split.1 k text (ltb-false k i e) lt)

any_same : {X : Type 0} (p q : X → Bool) (same : (x : X) → p x ≡ q x) (xs : List X) → list_any p xs ≡ list_any q xs
any_same p q same [] = refl
any_same p q same (x ∷ xs) = rw (same x, any_same p q same xs) refl

pub listed_alike : (values sorted : List (List ℕ)) (text : List ℕ) → IsPermutation values sorted → is_listed sorted text ≡ is_listed values text
unfolding is_listed
listed_alike values sorted text moved =
    any_same (λ line. is_value sorted (without_end line)) (λ line. is_value values (without_end line)) (λ line. alike (without_end line)) (lines_of text)
  where
    alike : (line : List ℕ) → is_value sorted line ≡ is_value values line
    alike [] = refl
    alike (b ∷ bs) = sym (list_any-IsPermutation (λ v. bytes_eq v (b ∷ bs)) values sorted moved)
