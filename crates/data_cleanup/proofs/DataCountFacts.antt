-- What was set has one cleanup record, or is once in one list.
use Rattle.std.proofs.Common.{◌≡◌, ℕ, zero, suc, ◌+◌, ◌<◌, false, eqb, ltb, arith, if◌then◌else◌, List, [], ◌∷◌, ◌++◌, length, map, reverse, refl, ap, subst, ◌∙◌}
use Rattle.std.specs.Str.{bytes_eq}
use Rattle.std.proofs.lemmas.List.{reverse-append}
use Rattle.data_cleanup.specs.Datum.{PlainDatum}
use Rattle.data_cleanup.specs.DataList.{data_named, datum_of, with_datum}
use Rattle.data_cleanup.specs.Ledger.{AreNumbered}
use Rattle.data_cleanup.specs.Cleanup.{Notes, times}
use Rattle.data_cleanup.specs.Grows.{with_births}
use Rattle.data_cleanup.specs.declared.datum.Birth.{Birth}
use Rattle.data_cleanup.specs.declared.receipt.Receipt.{Receipt}
use Rattle.data_cleanup.specs.Holding.{receipts, replaced_data}
use Rattle.data_cleanup.specs.Modelled.{times_filed, times_held}
use Rattle.data_cleanup.proofs.DataNameFacts.{by_test}
use Rattle.data_cleanup.proofs.NewestFirstFacts.{replaced_data-cons}

pub times-append : (id : ℕ) (xs ys : List PlainDatum) → times id (xs ++ ys) ≡ times id xs + times id ys
times-append id [] ys = omega arith
times-append id (x ∷ xs) ys = omega (arith, times-append id xs ys)

pub times-reverse : (id : ℕ) (xs : List PlainDatum) → times id (reverse xs) ≡ times id xs
times-reverse id [] = refl
times-reverse id (x ∷ xs) = ap (times id) (reverse-append (x ∷ []) xs) ∙ omega (arith, times-append id (reverse xs) (x ∷ []), times-reverse id xs)

times-with_datum : (id : ℕ) (live : List PlainDatum) (d : PlainDatum)
    → times id (with_datum live d) + times id (data_named live d.name) ≡ times id live + (if eqb d.id id then 1 else 0)
times-with_datum id [] d = omega arith
times-with_datum id (x ∷ xs) d = by_test (bytes_eq x.name d.name) (λ e. rw e (omega arith)) (λ e. rw e (omega (arith, times-with_datum id xs d)))

pub times-with_births : (id : ℕ) (live : List PlainDatum) (bs : List Birth)
    → times id (with_births live bs) + times id (replaced_data live bs) ≡ times id live + times id (map datum_of bs)
times-with_births id live [] = refl
times-with_births id live (b ∷ bs) =
    let rest = times-with_births id (with_datum live (datum_of b)) bs in
    let here = times-with_datum id live (datum_of b) in
    let parts = ap (times id) (replaced_data-cons live b bs) ∙ times-append id (data_named live b.name) (replaced_data (with_datum live (datum_of b)) bs) in
    omega (arith, rest, here, parts)

pub filed-append : (id : ℕ) (xs ys : List Receipt) → times_filed id (xs ++ ys) ≡ times_filed id xs + times_filed id ys
filed-append id [] ys = omega arith
filed-append id (x ∷ xs) ys = omega (arith, filed-append id xs ys)

pub filed-receipts : (id : ℕ) (note : Notes) (status : ℕ) (ds : List PlainDatum) → times_filed id (receipts note status ds) ≡ times id ds
filed-receipts id note status [] = refl
filed-receipts id note status (d ∷ ds) = ap (λ (n : ℕ). (if eqb d.id id then 1 else 0) + n) (filed-receipts id note status ds)

-- the new data
one_more : (id n : ℕ) → (if ltb id n then 1 else 0) + (if eqb n id then 1 else 0) ≡ (if ltb id (n + 1) then 1 else 0)
one_more id n = grind arith

pub times-numbered : (id n : ℕ) (bs : List Birth) → AreNumbered n bs
    → (if ltb id n then 1 else 0) + times id (map datum_of bs) ≡ (if ltb id (n + length bs) then 1 else 0)
times-numbered id n [] is = let e : n + 0 ≡ n = omega arith in rw e (omega arith)
times-numbered id n (b ∷ bs) is =
    let step : n + suc (length bs) ≡ (n + 1) + length bs = omega arith in
    rw (step, is.0) (omega (arith, one_more id n, times-numbered id (n + 1) bs is.1))

pub numbered-back : (n : ℕ) (xs ys : List Birth) → AreNumbered n (xs ++ ys) → AreNumbered (n + length xs) ys
numbered-back n [] ys is = let e : n ≡ n + 0 = omega arith in subst (λ (m : ℕ). AreNumbered m ys) e is
numbered-back n (x ∷ xs) ys is = let e : (n + 1) + length xs ≡ n + suc (length xs) = omega arith in subst (λ (m : ℕ). AreNumbered m ys) e (numbered-back (n + 1) xs ys is.1)

-- a handle's list changes, and the others stay
pub same_below : (limit id handle : ℕ) (lists next : ℕ → List PlainDatum) → ((h : ℕ) → h < limit → next h ≡ lists h)
    → times_held limit id next ≡ times_held limit id lists
unfolding times_held
same_below zero id handle lists next same = refl
same_below (suc limit) id handle lists next same = rw (same_below limit id handle lists next (λ h lt. same h (omega arith)), same limit (omega arith)) refl

pub data_held-moves : (limit id handle : ℕ) (lists next : ℕ → List PlainDatum) → handle < limit → ((h : ℕ) → eqb h handle ≡ false → next h ≡ lists h)
    → times_held limit id next + times id (lists handle) ≡ times_held limit id lists + times id (next handle)
unfolding times_held
data_held-moves zero id handle lists next lt same = absurd (omega arith)
data_held-moves (suc limit) id handle lists next lt same = by_test (eqb limit handle)
    (λ e. let here : limit ≡ handle = grind arith in
    let rest = same_below limit id handle lists next (λ h below. same h (grind arith)) in
    let old : times id (lists limit) ≡ times id (lists handle) = ap (λ (h : ℕ). times id (lists h)) here in
    let new : times id (next limit) ≡ times id (next handle) = ap (λ (h : ℕ). times id (next h)) here in
    omega (arith, rest, old, new))
    (λ e. let apart : handle < limit = grind arith in
    let rest = data_held-moves limit id handle lists next apart same in
    let old : times id (next limit) ≡ times id (lists limit) = ap (times id) (same limit e) in
    omega (arith, rest, old))

pub none_held : (limit id : ℕ) → times_held limit id (λ (h : ℕ). []) ≡ 0
unfolding times_held
none_held zero id = refl
none_held (suc limit) id = omega (arith, none_held limit id)
