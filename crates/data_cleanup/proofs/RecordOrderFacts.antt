-- Cleanup records are in order, and stay so when data are set.
use Rattle.std.proofs.Common.{◌≡◌, ℕ, ◌+◌, ◌<◌, ◌≤◌, arith, List, [], ◌∷◌, ◌++◌, length, map, refl, ap, ◌∙◌, length-append}
use Rattle.std.specs.List.{AllByRecursion}
use Rattle.std.specs.Str.{bytes_eq}
use Rattle.data_cleanup.specs.Datum.{PlainDatum}
use Rattle.data_cleanup.specs.DataList.{data_named, datum_of, with_datum}
use Rattle.data_cleanup.specs.Ledger.{AreNumbered}
use Rattle.data_cleanup.specs.Cleanup.{Notes, data_replace, receipts_for}
use Rattle.data_cleanup.specs.Grows.{AreSwept, replacements}
use Rattle.data_cleanup.specs.Tidy.{IsReceiptOf, IsTidy}
use Rattle.data_cleanup.specs.declared.datum.Birth.{Birth}
use Rattle.data_cleanup.specs.declared.receipt.Filed.{Filed}
use Rattle.data_cleanup.specs.declared.receipt.Receipt.{Receipt}
use Rattle.data_cleanup.specs.Latest.{IsLatest}
use Rattle.data_cleanup.specs.Holding.{receipts}
use Rattle.data_cleanup.specs.Modelled.{receipts_in}
use Rattle.data_cleanup.proofs.DataNameFacts.{by_test}
use Rattle.data_cleanup.proofs.Every.{every, both, every-append, every-back}

always : {A : Type 0} (P : A → Type 0) → ((x : A) → P x) → (xs : List A) → AllByRecursion P xs
always P f [] = tt
always P f (x ∷ xs) = (f x, always P f xs)

pub numbered_late : (n : ℕ) (births : List Birth) → AreNumbered n births → AllByRecursion (λ (b : Birth). n ≤ b.id) births
numbered_late n [] is = tt
numbered_late n (b ∷ bs) is = (omega (arith, is.0), every (λ (c : Birth). n + 1 ≤ c.id) (λ (c : Birth). n ≤ c.id) (λ c le. omega (arith, le)) bs (numbered_late (n + 1) bs is.1))

-- more data are set
of_more : (note : Notes) (births added : List Birth) (b : Birth) (f : Filed) → AllByRecursion (λ (c : Birth). length births ≤ c.id) added
    → f.mark ≤ length births → IsReceiptOf note births b f → IsReceiptOf note (births ++ added) b f
of_more note births added b f late within r = record {
  by_owner = r.by_owner;
  due_status = every-append _ births added r.due_status
      (every (λ (c : Birth). length births ≤ c.id) (λ (c : Birth). b.id < c.id → c.id < f.mark → c.handle ≡ b.handle → c.name ≡ b.name → f.receipt.status ≡ data_replace)
      (λ c le after below same name. absurd (omega (arith, le, below, within))) added late);
}

tidy_more : (note : Notes) (births added : List Birth) (f : Filed) → AllByRecursion (λ (c : Birth). length births ≤ c.id) added → IsTidy note births f
    → IsTidy note (births ++ added) f
tidy_more note births added f late t = record {
  below = t.below;
  within = omega (arith, t.within, length-append births added);
  is_of = every-append _ births added
      (every (λ (b : Birth). b.id ≡ f.receipt.id → IsReceiptOf note births b f) (λ (b : Birth). b.id ≡ f.receipt.id → IsReceiptOf note (births ++ added) b f)
      (λ b of e. of_more note births added b f late t.within (of e)) births t.is_of)
      (every (λ (c : Birth). length births ≤ c.id) (λ (b : Birth). b.id ≡ f.receipt.id → IsReceiptOf note (births ++ added) b f)
      (λ c le e. absurd (omega (arith, le, e, t.below, t.within))) added late);
}

pub all_tidy_more : (note : Notes) (births added : List Birth) (fs : List Filed) → AllByRecursion (λ (c : Birth). length births ≤ c.id) added
    → AllByRecursion (IsTidy note births) fs → AllByRecursion (IsTidy note (births ++ added)) fs
all_tidy_more note births added fs late all = every (IsTidy note births) (IsTidy note (births ++ added)) (λ f t. tidy_more note births added f late t) fs all

-- each record with the id of some data is the record of these data
abbrev Known : List Birth → PlainDatum → Type 0
Known births d = AllByRecursion (λ (b : Birth). b.id ≡ d.id → datum_of b ≡ d) births

numbered_known : (n : ℕ) (births : List Birth) → AreNumbered n births → AllByRecursion (λ (b : Birth). Known births (datum_of b)) births
numbered_known n [] is = tt
numbered_known n (b ∷ bs) is =
    let late = numbered_late (n + 1) bs is.1 in (
      (λ e. refl, every (λ (c : Birth). n + 1 ≤ c.id) (λ (c : Birth). c.id ≡ b.id → datum_of c ≡ datum_of b) (λ c le e. absurd (omega (arith, le, e, is.0))) bs late),
      both (λ (c : Birth). n + 1 ≤ c.id) (λ (c : Birth). Known bs (datum_of c)) (λ (c : Birth). Known (b ∷ bs) (datum_of c)) (λ c le k. (λ e. absurd (omega (arith, le, e, is.0)), k)) bs late (numbered_known (n + 1) bs is.1),
    )

latest_known : (handle : ℕ) (births added : List Birth) (d : PlainDatum) → AllByRecursion (λ (c : Birth). length births ≤ c.id) added
    → IsLatest handle births d → Known (births ++ added) d
latest_known handle births added d late l = every-append _ births added
    (every (λ (b : Birth). b.id ≡ d.id → (datum_of b ≡ d) × (b.handle ≡ handle)) (λ (b : Birth). b.id ≡ d.id → datum_of b ≡ d) (λ b is e. (is e).0) births l.is)
    (every (λ (c : Birth). length births ≤ c.id) (λ (b : Birth). b.id ≡ d.id → datum_of b ≡ d) (λ c le e. absurd (omega (arith, le, e, l.below))) added late)

pub each_placed : (P : PlainDatum → Type 0) (live : List PlainDatum) (d : PlainDatum) → AllByRecursion P live → P d → AllByRecursion P (with_datum live d)
each_placed P [] d all p = (p, tt)
each_placed P (x ∷ xs) d all p = by_test (bytes_eq x.name d.name) (λ e. rw e (p, all.1)) (λ e. rw e (all.0, each_placed P xs d all.1 p))

each_named : (P : PlainDatum → Type 0) (live : List PlainDatum) (n : List ℕ) (id : ℕ) → AllByRecursion P live
    → AllByRecursion (λ (r : PlainDatum × ℕ). P r.0) (map (λ (d : PlainDatum). (d, id)) (data_named live n))
each_named P [] n id all = tt
each_named P (x ∷ xs) n id all = by_test (bytes_eq x.name n) (λ e. rw e (all.0, tt)) (λ e. rw e (each_named P xs n id all.1))

each_gone : (P : PlainDatum → Type 0) (live : List PlainDatum) (bs : List Birth) → AllByRecursion P live
    → AllByRecursion (λ (b : Birth). P (datum_of b)) bs → AllByRecursion (λ (r : PlainDatum × ℕ). P r.0) (replacements live bs)
each_gone P live [] all new = tt
each_gone P live (b ∷ bs) all new = every-append _ (map (λ (d : PlainDatum). (d, b.id)) (data_named live b.name)) (replacements (with_datum live (datum_of b)) bs)
    (each_named P live b.name b.id all) (each_gone P (with_datum live (datum_of b)) bs (each_placed P live (datum_of b) all new.0) new.1)

-- the cleanup records of data that were replaced
swept_tidy : (note : Notes) (births : List Birth) (limit : ℕ) (rs : List (PlainDatum × ℕ)) (fs : List Filed) → AreSwept note limit rs fs
    → AllByRecursion (λ (f : Filed). f.receipt.id < f.mark) fs → AllByRecursion (λ (f : Filed). f.mark ≤ length births) fs → AllByRecursion (λ (r : PlainDatum × ℕ). Known births r.0) rs → AllByRecursion (IsTidy note births) fs
swept_tidy note births limit [] [] s low in_list known = tt
swept_tidy note births limit (r ∷ rs) (f ∷ fs) s low in_list known = (
  record {
    below = low.0;
    within = in_list.0;
    is_of = every (λ (b : Birth). b.id ≡ r.0.id → datum_of b ≡ r.0) (λ (b : Birth). b.id ≡ f.receipt.id → IsReceiptOf note births b f)
        (λ b is e. let same : datum_of b ≡ r.0 = is (e ∙ s.0.id) in record {
          by_owner = s.0.by_owner ∙ rw (s.0.status, ap (λ (d : PlainDatum). d.owner) same, ap (λ (d : PlainDatum). d.payload) same) refl;
          due_status = always _ (λ c after below same name. s.0.status) births;
        }) births known.0;
  },
  swept_tidy note births limit rs fs s.1 low.1 in_list.1 known.1,
)
swept_tidy note births limit [] (f ∷ fs) s low in_list known = absurd s
swept_tidy note births limit (r ∷ rs) [] s low in_list known = absurd s

pub growth_tidy : (note : Notes) (handle limit : ℕ) (births added : List Birth) (live : List PlainDatum) (fs : List Filed)
    → AreNumbered 0 (births ++ added) → AllByRecursion (λ (c : Birth). length births ≤ c.id) added → AllByRecursion (IsLatest handle births) live → AreSwept note limit (replacements live added) fs
    → AllByRecursion (λ (f : Filed). f.receipt.id < f.mark) fs → AllByRecursion (λ (f : Filed). f.mark ≤ length (births ++ added)) fs → AllByRecursion (IsTidy note (births ++ added)) fs
growth_tidy note handle limit births added live fs numbered late all s low in_list = swept_tidy note (births ++ added) limit (replacements live added) fs s low in_list
    (each_gone (Known (births ++ added)) live added
    (every (IsLatest handle births) (Known (births ++ added)) (λ d l. latest_known handle births added d late l) live all)
    (every-back _ births added (numbered_known 0 (births ++ added) numbered)))

-- the cleanup records of an end
pub end_tidy : (note : Notes) (handle status : ℕ) (births : List Birth) (ds : List PlainDatum) → AllByRecursion (IsLatest handle births) ds
    → AllByRecursion (IsTidy note births) (receipts_for note status (length births) ds)
end_tidy note handle status births [] all = tt
end_tidy note handle status births (d ∷ ds) all =
    let f : Filed = record { receipt = record { id = d.id; status = status; note = note d.owner d.payload status }; mark = length births } in
    let l = all.0 in (
      record {
        below = l.below;
        within = omega arith;
        is_of = every (λ (b : Birth). b.id ≡ d.id → (datum_of b ≡ d) × (b.handle ≡ handle)) (λ (b : Birth). b.id ≡ d.id → IsReceiptOf note births b f)
            (λ b is e. let same = is e in record {
              by_owner = rw (ap (λ (x : PlainDatum). x.owner) same.0, ap (λ (x : PlainDatum). x.payload) same.0) refl;
              due_status = every (λ (c : Birth). d.id < c.id → c.handle ≡ handle → c.name ≡ d.name → ⊥) (λ (c : Birth). b.id < c.id → c.id < f.mark → c.handle ≡ b.handle → c.name ≡ b.name → f.receipt.status ≡ data_replace)
                  (λ c no after below at name. absurd (no (omega (arith, after, e)) (at ∙ same.1) (name ∙ ap (λ (x : PlainDatum). x.name) same.0))) births l.latest;
            }) births l.is;
      },
      end_tidy note handle status births ds all.1,
    )

-- the cleanup records alone
receipt_is : (i j s t n m : ℕ) → i ≡ j → s ≡ t → n ≡ m → ◌≡◌ {A = Receipt} (record { id = i; status = s; note = n }) (record { id = j; status = t; note = m })
receipt_is i j s t n m a b c = cc

pub swept_receipts : (note : Notes) (limit : ℕ) (rs : List (PlainDatum × ℕ)) (fs : List Filed) → AreSwept note limit rs fs
    → receipts_in fs ≡ receipts note data_replace (map (λ (r : PlainDatum × ℕ). r.0) rs)
swept_receipts note limit [] [] s = refl
swept_receipts note limit (r ∷ rs) (f ∷ fs) s =
    ap (λ (x : Receipt). x ∷ receipts_in fs) (receipt_is _ _ _ _ _ _ s.0.id s.0.status s.0.by_owner)
    ∙ ap (λ (xs : List Receipt). record { id = r.0.id; status = data_replace; note = note r.0.owner r.0.payload data_replace } ∷ xs) (swept_receipts note limit rs fs s.1)
swept_receipts note limit [] (f ∷ fs) s = absurd s
swept_receipts note limit (r ∷ rs) [] s = absurd s

pub tidied_receipts : (note : Notes) (status mark : ℕ) (ds : List PlainDatum) → receipts_in (receipts_for note status mark ds) ≡ receipts note status ds
tidied_receipts note status mark [] = refl
tidied_receipts note status mark (d ∷ ds) = ap (λ (xs : List Receipt). record { id = d.id; status = status; note = note d.owner d.payload status } ∷ xs) (tidied_receipts note status mark ds)
