-- The last n of the hashes that were added: cutting after each or once at the end gives the same.
use Rattle.std.proofs.Common.{◌≡◌, ℕ, zero, suc, ◌+◌, ◌-◌, ◌<◌, Bool, true, false, ◌||◌, cond, List, [], ◌∷◌, ◌++◌, length, drop, Option, Some, None, refl, sym, ap, ◌∙◌, arith, length-append, length-drop}
use Rattle.std.proofs.lemmas.List.{drop-append-le, drop-drop}
use Rattle.std.specs.List.{last_or}
use Rattle.std.specs.Str.{bytes_eq}
use Rattle.mod_unix.specs.Verify.{is_locked}
use Rattle.mod_history.specs.Renewal.{is_left_out, is_text, last_of, renewed_hashes, with_hash}
use Rattle.mod_history.specs.Standing.{Deed, left, replaced, added_by, is_renewed, kept_by}

last_by : (d : Option (List ℕ)) (xs : List (List ℕ)) → 0 < length xs → (e : Option (List ℕ)) → last_or d xs ≡ last_or e xs
last_by d [] some e = absurd (omega arith)
last_by d (x ∷ xs) some e = refl

last_drop : (k : ℕ) (xs : List (List ℕ)) → k < length xs → (d : Option (List ℕ)) → last_or d (drop k xs) ≡ last_or d xs
last_drop zero xs some d = refl
last_drop (suc k) [] some d = absurd (omega arith)
last_drop (suc k) (x ∷ xs) some d = last_drop k xs (omega arith) d ∙ last_by d xs (omega arith) (Some x)

module _ (n : ℕ) (some : 0 < n) where
  same_last : (xs : List (List ℕ)) → last_or None (last_of n xs) ≡ last_or None xs
  same_last [] = let none : 0 - n ≡ 0 = omega arith in ap (λ (k : ℕ). last_or None (drop {A = List ℕ} k [])) none
  same_last (x ∷ xs) = last_drop (length (x ∷ xs) - n) (x ∷ xs) (omega arith) None

  -- the last n again
  again : (xs : List (List ℕ)) → last_of n (last_of n xs) ≡ last_of n xs
  again xs =
      let few = length-drop (length xs - n) xs in
      let none : length (drop (length xs - n) xs) - n ≡ 0 = omega (arith, few) in
      ap (λ (k : ℕ). drop k (drop (length xs - n) xs)) none

  -- with one more after them
  more : (xs : List (List ℕ)) (hash : List ℕ) → last_of n (last_of n xs ++ hash ∷ []) ≡ last_of n (xs ++ hash ∷ [])
  more xs hash =
      let k = length xs - n in
      let whole = length-append xs (hash ∷ []) in
      let part = length-append (drop k xs) (hash ∷ []) in
      let few = length-drop k xs in
      let place : k + (length (drop k xs ++ hash ∷ []) - n) ≡ length (xs ++ hash ∷ []) - n = omega (arith, whole, part, few) in
      let front : drop k (xs ++ hash ∷ []) ≡ drop k xs ++ hash ∷ [] = drop-append-le k xs (hash ∷ []) (omega arith) in
      ap (λ (ys : List (List ℕ)). drop (length (drop k xs ++ hash ∷ []) - n) ys) (sym front)
      ∙ drop-drop (length (drop k xs ++ hash ∷ []) - n) k (xs ++ hash ∷ [])
      ∙ ap (λ (m : ℕ). drop m (xs ++ hash ∷ [])) place

  added : (b : Bool) (xs : List (List ℕ)) (hash : List ℕ) → last_of n (cond b (last_of n xs) (last_of n xs ++ hash ∷ [])) ≡ last_of n (cond b xs (xs ++ hash ∷ []))
  added true xs hash = again xs
  added false xs hash = more xs hash

  cut_first : (xs : List (List ℕ)) (hash : List ℕ) → renewed_hashes n hash (last_of n xs) ≡ last_of n (with_hash hash xs)
  cut_first xs hash =
      let same : is_left_out hash (last_of n xs) ≡ is_left_out hash xs = ap (λ (l : Option (List ℕ)). is_locked hash || is_text hash l) (same_last xs) in
      ap (λ (b : Bool). last_of n (cond b (last_of n xs) (last_of n xs ++ hash ∷ []))) same ∙ added (is_left_out hash xs) xs hash

  step_by : (b : Bool) (xs : List (List ℕ)) (hash : List ℕ) → cond b (renewed_hashes n hash (last_of n xs)) (last_of n xs) ≡ last_of n (cond b (with_hash hash xs) xs)
  step_by true xs hash = cut_first xs hash
  step_by false xs hash = refl

  cut_at_end : (user : List ℕ) (ds : List Deed) (xs : List (List ℕ)) → kept_by n user ds (last_of n xs) ≡ last_of n (added_by user ds xs)
  cut_at_end user [] xs = refl
  cut_at_end user (left ∷ ds) xs = cut_at_end user ds xs
  cut_at_end user (replaced name hash ∷ ds) xs =
      ap (kept_by n user ds) (step_by (bytes_eq name user) xs hash) ∙ cut_at_end user ds (cond (bytes_eq name user) (with_hash hash xs) xs)

  kept_on : (b : Bool) (user hash : List ℕ) (ds : List Deed) (xs : List (List ℕ)) → (is_renewed user ds ≡ true → kept_by n user ds xs ≡ last_of n (added_by user ds xs)) → (b || is_renewed user ds) ≡ true
      → kept_by n user ds (cond b (renewed_hashes n hash xs) xs) ≡ last_of n (added_by user ds (cond b (with_hash hash xs) xs))
  kept_on true user hash ds xs rest e = cut_at_end user ds (with_hash hash xs)
  kept_on false user hash ds xs rest e = rest e

  pub kept_last : (user : List ℕ) (ds : List Deed) (xs : List (List ℕ)) → is_renewed user ds ≡ true → kept_by n user ds xs ≡ last_of n (added_by user ds xs)
  kept_last user [] xs e = absurd cc
  kept_last user (left ∷ ds) xs e = kept_last user ds xs e
  kept_last user (replaced name hash ∷ ds) xs e = kept_on (bytes_eq name user) user hash ds xs (kept_last user ds xs) e
