-- No id has two cleanup records, and the position of each cleanup record is greater than its id.
use Rattle.std.proofs.Common.{◌≡◌, ℕ, ◌+◌, ◌<◌, ◌≤◌, Bool, true, false, eqb, ltb, arith, if◌then◌else◌, List, [], ◌∷◌, map, refl}
use Rattle.std.specs.List.{AllByRecursion, IsDistinct, list_any}
use Rattle.std.specs.Str.{bytes_eq}
use Rattle.data_cleanup.specs.Datum.{PlainDatum}
use Rattle.data_cleanup.specs.DataList.{data_named, datum_of, with_datum}
use Rattle.data_cleanup.specs.Ledger.{AreNumbered, filed_ids}
use Rattle.data_cleanup.specs.Cleanup.{Notes}
use Rattle.data_cleanup.specs.Grows.{AreSwept, replacements}
use Rattle.data_cleanup.specs.declared.datum.Birth.{Birth}
use Rattle.data_cleanup.specs.declared.receipt.Filed.{Filed}
use Rattle.data_cleanup.specs.Modelled.{receipts_in, times_filed}
use Rattle.data_cleanup.proofs.DataNameFacts.{by_test}
use Rattle.data_cleanup.proofs.Every.{every, every-append}
use Rattle.data_cleanup.proofs.RecordOrderFacts.{each_placed}

pub none_unfiled : (id : ℕ) (fs : List Filed) → times_filed id (receipts_in fs) ≡ 0 → list_any (eqb id) (filed_ids fs) ≡ false
none_unfiled id [] e = refl
none_unfiled id (f ∷ fs) e = by_test (eqb id f.receipt.id)
    (λ t. let back : eqb f.receipt.id id ≡ true = grind arith in absurd (let no : 1 + times_filed id (receipts_in fs) ≡ 0 = rw back at e in omega (arith, no)))
    (λ t. let back : eqb f.receipt.id id ≡ false = grind arith in rw t (none_unfiled id fs (let no : 0 + times_filed id (receipts_in fs) ≡ 0 = rw back at e in omega (arith, no))))

not_among : (id : ℕ) (ids : List ℕ) → list_any (eqb id) ids ≡ false → AllByRecursion (λ (i : ℕ). eqb id i ≡ false) ids
not_among id [] e = tt
not_among id (i ∷ is) e = by_test (eqb id i) (λ t. absurd (let no : true ≡ false = rw t at e in cc)) (λ t. (t, not_among id is (rw t at e)))

pub at_most_one : (id n j k : ℕ) → j + k ≡ (if ltb id n then 1 else 0) → j ≤ 1
at_most_one id n j k e = grind arith

own_gone : (n : ℕ) (b : Bool) → (if b then 1 else 0) + n ≤ 1 → n ≤ 1
own_gone n true le = omega (arith, le)
own_gone n false le = omega (arith, le)

pub distinct : (fs : List Filed) → ((id : ℕ) → times_filed id (receipts_in fs) ≤ 1) → IsDistinct eqb (filed_ids fs)
unfolding IsDistinct
distinct [] most = tt
distinct (f ∷ fs) most =
    let same : eqb f.receipt.id f.receipt.id ≡ true = grind arith in
    let one : 1 + times_filed f.receipt.id (receipts_in fs) ≤ 1 = rw same at (most f.receipt.id) in
    (not_among f.receipt.id (filed_ids fs) (none_unfiled f.receipt.id fs (omega (arith, one))), distinct fs (λ id. own_gone _ (eqb f.receipt.id id) (most id)))

-- data is replaced by later data of its name
each_now : (n id : ℕ) (live : List PlainDatum) (name : List ℕ) → id ≡ n → AllByRecursion (λ (d : PlainDatum). d.id < n) live
    → AllByRecursion (λ (r : PlainDatum × ℕ). r.0.id < r.1) (map (λ (d : PlainDatum). (d, id)) (data_named live name))
each_now n id [] name e all = tt
each_now n id (x ∷ xs) name e all = by_test (bytes_eq x.name name) (λ t. rw t (omega (arith, all.0, e), tt)) (λ t. rw t (each_now n id xs name e all.1))

pub replaced_later : (n : ℕ) (live : List PlainDatum) (bs : List Birth) → AreNumbered n bs → AllByRecursion (λ (d : PlainDatum). d.id < n) live
    → AllByRecursion (λ (r : PlainDatum × ℕ). r.0.id < r.1) (replacements live bs)
replaced_later n live [] is all = tt
replaced_later n live (b ∷ bs) is all = every-append _ (map (λ (d : PlainDatum). (d, b.id)) (data_named live b.name)) (replacements (with_datum live (datum_of b)) bs)
    (each_now n b.id live b.name is.0 all)
    (replaced_later (n + 1) (with_datum live (datum_of b)) bs is.1
    (each_placed (λ (d : PlainDatum). d.id < n + 1) live (datum_of b) (every (λ (d : PlainDatum). d.id < n) (λ (d : PlainDatum). d.id < n + 1) (λ d lt. omega (arith, lt)) live all) (omega (arith, is.0))))

pub swept_low : (note : Notes) (limit : ℕ) (rs : List (PlainDatum × ℕ)) (fs : List Filed) → AreSwept note limit rs fs
    → AllByRecursion (λ (r : PlainDatum × ℕ). r.0.id < r.1) rs → AllByRecursion (λ (f : Filed). f.receipt.id < f.mark) fs
swept_low note limit [] [] s all = tt
swept_low note limit (r ∷ rs) (f ∷ fs) s all = (omega (arith, s.0.id, s.0.after, all.0), swept_low note limit rs fs s.1 all.1)
swept_low note limit [] (f ∷ fs) s all = absurd s
swept_low note limit (r ∷ rs) [] s all = absurd s

pub swept_within : (note : Notes) (limit : ℕ) (rs : List (PlainDatum × ℕ)) (fs : List Filed) → AreSwept note limit rs fs
    → AllByRecursion (λ (f : Filed). f.mark ≤ limit) fs
swept_within note limit [] [] s = tt
swept_within note limit (r ∷ rs) (f ∷ fs) s = (s.0.within, swept_within note limit rs fs s.1)
swept_within note limit [] (f ∷ fs) s = absurd s
swept_within note limit (r ∷ rs) [] s = absurd s
