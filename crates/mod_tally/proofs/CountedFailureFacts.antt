-- Which failures count, among those that count already.
use Rattle.std.proofs.Common.{◌≡◌, ℕ, ◌-◌, ◌<◌, ◌≤◌, max, Bool, true, false, cond, ltb, List, [], ◌∷◌, ◌++◌, filter, refl, sym, ap, ◌∙◌, arith}
use Rattle.std.proofs.lemmas.Bool.{ltb-true, ltb-false, le-ltb}
use Rattle.std.proofs.lemmas.List.Elements.{filter-append}
use Rattle.mod_tally.specs.declared.tally.Failure.{Failure}
use Rattle.mod_tally.specs.Tally.{counting, counts, latest}

latest-append : (xs ys : List Failure) → latest (xs ++ ys) ≡ max (latest xs) (latest ys)
latest-append [] ys = omega arith
latest-append (x ∷ xs) ys = omega (arith, latest-append xs ys)

-- if the interval is 0, none counts
none_counts : (g : ℕ) (xs : List Failure) → filter (counts 0 g) xs ≡ []
none_counts g [] = refl
none_counts g (x ∷ xs) = rw (le-ltb (g - x.moment) 0 (omega arith)) (none_counts g xs)

-- what counts against a later time counts against an earlier one
counts_before : (i g h : ℕ) (x : Failure) → g ≤ h → counts i g x ≡ false → counts i h x ≡ false
counts_before i g h x le e = le-ltb (h - x.moment) i (omega (arith, ltb-false (g - x.moment) i e))

by_first : (i g h : ℕ) (x : Failure) (rest : List Failure) (b : Bool) → counts i g x ≡ b → g ≤ h → filter (counts i h) (cond b (x ∷ rest) rest) ≡ cond (counts i h x) (x ∷ filter (counts i h) rest) (filter (counts i h) rest)
by_first i g h x rest true e le = refl
by_first i g h x rest false e le = rw (counts_before i g h x le e) refl

twice : (i g h : ℕ) (xs : List Failure) → g ≤ h → filter (counts i h) (filter (counts i g) xs) ≡ filter (counts i h) xs
twice i g h [] le = refl
twice i g h (x ∷ xs) le = by_first i g h x (filter (counts i g) xs) (counts i g x) refl le ∙ rw (twice i g h xs le) refl

-- the latest of those that count
latest_of : (x : Failure) (kept all : List Failure) (b : Bool) → latest kept ≤ latest all → latest (cond b (x ∷ kept) kept) ≤ latest (x ∷ all)
latest_of x kept all true le = omega (arith, le)
latest_of x kept all false le = omega (arith, le)

not_later : (p : Failure → Bool) (xs : List Failure) → latest (filter p xs) ≤ latest xs
not_later p [] = omega arith
not_later p (x ∷ xs) = latest_of x (filter p xs) xs (p x) (not_later p xs)

by_greatest : (i g : ℕ) (x : Failure) (kept xs : List Failure) (b : Bool) → counts i g x ≡ b → 0 < i → max x.moment (latest xs) ≡ g → latest kept ≤ latest xs → (latest xs ≡ g → latest kept ≡ g) → latest (cond b (x ∷ kept) kept) ≡ g
by_greatest i g x kept xs true c some e le same = either (ltb (latest xs) g) refl
  where
    either : (b : Bool) → ltb (latest xs) g ≡ b → max x.moment (latest kept) ≡ g
    either true lt = omega (arith, ltb-true (latest xs) g lt, le, e)
    either false ge = omega (arith, same (omega (arith, ltb-false (latest xs) g ge, e)), e)
by_greatest i g x kept xs false c some e le same = same (omega (arith, ltb-false (g - x.moment) i c, e, some))

same_latest : (i g : ℕ) (xs : List Failure) → 0 < i → latest xs ≡ g → latest (filter (counts i g) xs) ≡ g
same_latest i g [] some e = e
same_latest i g (x ∷ xs) some e = by_greatest i g x (filter (counts i g) xs) xs (counts i g x) refl some e (not_later (counts i g) xs) (same_latest i g xs some)

-- dropping the failures that don't count before others are added doesn't change which count
-- afterwards
pub counting-counting : (i : ℕ) (xs ys : List Failure) → counting i (counting i xs ++ ys) ≡ counting i (xs ++ ys)
counting-counting i xs ys = by (ltb 0 i) refl
  where
    by : (b : Bool) → ltb 0 i ≡ b → counting i (counting i xs ++ ys) ≡ counting i (xs ++ ys)
    by false e =
        let zero : i ≡ 0 = omega (arith, ltb-false 0 i e) in
        rw zero (none_counts _ (counting 0 xs ++ ys) ∙ sym (none_counts _ (xs ++ ys)))
    by true e =
        let g = latest (xs ++ ys) in
        let same : latest (counting i xs ++ ys) ≡ g = latest-append (counting i xs) ys ∙ ap (λ (m : ℕ). max m (latest ys)) (same_latest i (latest xs) xs (ltb-true 0 i e) refl) ∙ sym (latest-append xs ys) in
        let le : latest xs ≤ g = omega (arith, latest-append xs ys) in
        rw same (filter-append (counts i g) (counting i xs) ys ∙ rw (twice i (latest xs) g xs le) (sym (filter-append (counts i g) xs ys)))
