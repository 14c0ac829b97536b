-- The invariant of a cleanup log, kept by each of its changes.
use Rattle.std.proofs.Common.{◌≡◌, ℕ, ◌+◌, ◌<◌, ◌≤◌, Bool, true, false, ◌||◌, ◌⊎◌, inl, inr, eqb, List, [], ◌∷◌, ◌++◌, length, refl, sym, subst, arith}
use Rattle.std.specs.List.{list_any, IsDistinct, AllByRecursion}
use Rattle.std.specs.Cmp.{nat_eq_equiv}
use Rattle.std.proofs.lemmas.Bool.{eqb-true}
use Rattle.std.proofs.lemmas.List.{length-map, map-append}
use Rattle.std.proofs.lemmas.Map.Keys.{IsDistinct-push, IsDistinct-cons}
use Rattle.std.proofs.lemmas.Map.Steps.{length-le_from_distinct_below}
use Rattle.data_cleanup.specs.declared.datum.Birth.{Birth}
use Rattle.data_cleanup.specs.declared.receipt.Filed.{Filed}
use Rattle.data_cleanup.specs.Ledger.{filed_ids, IsOutstanding, IsSound, AreNumbered}

pub sound_empty : (births : List Birth) (filed : List Filed) → filed ≡ [] → IsSound births filed
unfolding IsDistinct
sound_empty births filed e = subst (λ (fs : List Filed). IsSound births fs) (sym e) (record { once = tt; born = tt; marks = tt })

marks_more : (m n : ℕ) (fs : List Filed) → m ≤ n → AllByRecursion (λ (f : Filed). f.mark ≤ m) fs → AllByRecursion (λ (f : Filed). f.mark ≤ n) fs
marks_more m n [] le all = tt
marks_more m n (f ∷ fs) le all = (omega (arith, all.0), marks_more m n fs le all.1)

-- one more set
pub sound_bear : (births more : List Birth) (filed : List Filed) → length births ≤ length more → IsSound births filed → IsSound more filed
sound_bear births more filed le s = record { once = s.once; born = s.born; marks = marks_more _ _ filed le s.marks }

all_push : {A : Type 0} (P : A → Type 0) (xs : List A) (y : A) → AllByRecursion P xs → P y → AllByRecursion P (xs ++ y ∷ [])
all_push P [] y all here = (here, tt)
all_push P (x ∷ xs) y all here = (all.0, all_push P xs y all.1 here)

numbered_from : (n : ℕ) (births : List Birth) (b : Birth) → AreNumbered n births → b.id ≡ n + length births → AreNumbered n (births ++ b ∷ [])
numbered_from n [] b all is = (omega (arith, is), tt)
numbered_from n (x ∷ xs) b all is = (all.0, numbered_from (n + 1) xs b all.1 (omega (arith, is)))

pub numbered_bear : (births more : List Birth) (b : Birth) → more ≡ births ++ b ∷ [] → b.id ≡ length births → AreNumbered 0 births → AreNumbered 0 more
numbered_bear births more b e is all = subst (AreNumbered 0) (sym e) (numbered_from 0 births b all (omega (arith, is)))

-- one more cleanup record
pub sound_file : (births : List Birth) (filed : List Filed) (f : Filed) → IsOutstanding (record { births = births; filed = filed }) f.receipt.id
    → f.mark ≡ length births → IsSound births filed → IsSound births (filed ++ f ∷ [])
sound_file births filed f outstanding mark s = record {
  once = rw map-append (IsDistinct-push nat_eq_equiv (filed_ids filed) f.receipt.id s.once outstanding.unfiled);
  born = all_push _ filed f s.born (rw mark outstanding.born);
  marks = all_push _ filed f s.marks (omega (arith, mark));
}

or_split : (a b : Bool) → (a || b) ≡ true → (a ≡ true) ⊎ (b ≡ true)
or_split true b e = inl refl
or_split false b e = inr e

neither : (a b : Bool) → (a || b) ≡ false → (a ≡ false) × (b ≡ false)
neither true b e = absurd cc
neither false b e = (refl, e)

pub ids_below : (n id : ℕ) (fs : List Filed) → AllByRecursion (λ (f : Filed). f.receipt.id < f.mark) fs
    → AllByRecursion (λ (f : Filed). f.mark ≤ n) fs → list_any (eqb id) (filed_ids fs) ≡ true → id < n
ids_below n id [] born marks e = absurd cc
ids_below n id (f ∷ fs) born marks e = elim (or_split (eqb id f.receipt.id) (list_any (eqb id) (filed_ids fs)) e) [
  | inl here ↦ omega (arith, born.0, marks.0, eqb-true id f.receipt.id here)
  | inr there ↦ ids_below n id fs born.1 marks.1 there
]

not_among : (id : ℕ) (ids : List ℕ) → list_any (eqb id) ids ≡ false → AllByRecursion (λ y. eqb id y ≡ false) ids
not_among id [] e = tt
not_among id (i ∷ is) e = let both = neither (eqb id i) (list_any (eqb id) is) e in (both.0, not_among id is both.1)

below_with : (n id q : ℕ) (fs : List Filed) → id < n → AllByRecursion (λ (f : Filed). f.receipt.id < f.mark) fs
    → AllByRecursion (λ (f : Filed). f.mark ≤ n) fs → list_any (eqb q) (id ∷ filed_ids fs) ≡ true → q < n
below_with n id q fs lt born marks e = elim (or_split (eqb q id) (list_any (eqb q) (filed_ids fs)) e) [
  | inl here ↦ omega (arith, eqb-true q id here)
  | inr there ↦ ids_below n q fs born marks there
]

-- If a set has no cleanup record, there is room for one.
pub room_left : (births : List Birth) (filed : List Filed) (id : ℕ) → IsOutstanding (record { births = births; filed = filed }) id
    → IsSound births filed → length filed < length births
room_left births filed id outstanding s =
    let distinct = IsDistinct-cons eqb id (filed_ids filed) (not_among id (filed_ids filed) outstanding.unfiled) s.once in
    let within = length-le_from_distinct_below (id ∷ filed_ids filed) (length births) distinct (λ q e. below_with (length births) id q filed outstanding.born s.born s.marks e) in
    simp length-map at within

-- There are no more cleanup records than sets.
pub filed_within : (births : List Birth) (filed : List Filed) → IsSound births filed → length filed ≤ length births
filed_within births filed s =
    let within = length-le_from_distinct_below (filed_ids filed) (length births) s.once (λ q e. ids_below (length births) q filed s.born s.marks e) in
    simp length-map at within
