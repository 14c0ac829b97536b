-- A hash that is among those that were compared isn't the token's.
use Rattle.std.proofs.Common.{◌≡◌, ℕ, Bool, true, false, ◌||◌, List, [], ◌∷◌, refl, sym, ap, ◌∙◌}
use Rattle.std.specs.List.{list_any}
use Rattle.std.specs.Str.{bytes_eq}
use Rattle.std.proofs.lemmas.Slice.Eq.{bytes_eq-Decides}
use Rattle.mod_history.specs.Pwhistory.{has_hash, was_used}

neither : (a b : Bool) → (a || b) ≡ false → (a ≡ false) × (b ≡ false)
neither true b e = absurd cc
neither false b e = (refl, e)

module _ (token hash : List ℕ) where
  both : (earlier : List (List ℕ)) → was_used token hash earlier ≡ false → (has_hash token hash ≡ false) × (list_any (has_hash token) earlier ≡ false)
  unfolding was_used
  both earlier e = neither (has_hash token hash) (list_any (has_hash token) earlier) e

  pub present : (earlier : List (List ℕ)) (other : List ℕ) → was_used token hash earlier ≡ false → bytes_eq other hash ≡ true → has_hash token other ≡ false
  present earlier other e same = ap (has_hash token) ((bytes_eq-Decides other hash).0 same) ∙ (both earlier e).0

  here : (h : List ℕ) (hs : List (List ℕ)) (other : List ℕ) (b : Bool) → bytes_eq h other ≡ b → list_any (has_hash token) (h ∷ hs) ≡ false → (b || list_any (λ t. bytes_eq t other) hs) ≡ true
      → (list_any (has_hash token) hs ≡ false → list_any (λ t. bytes_eq t other) hs ≡ true → has_hash token other ≡ false) → has_hash token other ≡ false
  here h hs other true e none found rest = ap (has_hash token) (sym ((bytes_eq-Decides h other).0 e)) ∙ (neither (has_hash token h) (list_any (has_hash token) hs) none).0
  here h hs other false e none found rest = rest (neither (has_hash token h) (list_any (has_hash token) hs) none).1 found

  one : (earlier : List (List ℕ)) (other : List ℕ) → list_any (has_hash token) earlier ≡ false → list_any (λ t. bytes_eq t other) earlier ≡ true → has_hash token other ≡ false
  one [] other none found = absurd cc
  one (h ∷ hs) other none found = here h hs other (bytes_eq h other) refl none found (one hs other)

  pub known : (earlier : List (List ℕ)) (other : List ℕ) → was_used token hash earlier ≡ false → list_any (λ t. bytes_eq t other) earlier ≡ true → has_hash token other ≡ false
  known earlier other e found = one earlier other (both earlier e).1 found
