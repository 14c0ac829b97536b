-- What has no cleanup record is in a list.
use Rattle.std.proofs.Common.{◌≡◌, ◌↔◌, ℕ, zero, suc, ◌<◌, ◌≤◌, ◌⊎◌, inl, inr, Bool, true, false, eqb, ltb, arith, if◌then◌else◌, List, [], ◌∷◌, length, refl, ap}
use Rattle.std.specs.List.{AllByRecursion, list_any}
use Rattle.std.specs.Str.{bytes_eq}
use Rattle.data_cleanup.specs.Datum.{PlainDatum}
use Rattle.data_cleanup.specs.DataList.{datum_of, with_datum}
use Rattle.data_cleanup.specs.Ledger.{IsOutstanding, PlainLedger, filed_ids, is_filed}
use Rattle.data_cleanup.specs.Cleanup.{times}
use Rattle.data_cleanup.specs.Grows.{with_births}
use Rattle.data_cleanup.specs.Due.{Event}
use Rattle.data_cleanup.specs.declared.datum.Birth.{Birth}
use Rattle.data_cleanup.specs.declared.receipt.Filed.{Filed}
use Rattle.data_cleanup.specs.Holding.{births_since, data_held}
use Rattle.data_cleanup.specs.Modelled.{EachOnce, receipts_in, times_filed, times_held}
use Rattle.data_cleanup.proofs.FiledOnce.{none_unfiled}
use Rattle.data_cleanup.proofs.DataNameFacts.{by_test}

unfiled_none : (id : ℕ) (fs : List Filed) → list_any (eqb id) (filed_ids fs) ≡ false → times_filed id (receipts_in fs) ≡ 0
unfiled_none id [] e = refl
unfiled_none id (f ∷ fs) e = by_test (eqb id f.receipt.id)
    (λ t. absurd (let no : true ≡ false = rw t at e in cc))
    (λ t. let back : eqb f.receipt.id id ≡ false = grind arith in rw back (omega (arith, unfiled_none id fs (rw t at e))))

zero_or_more : (n : ℕ) → (n ≡ 0) ⊎ (0 < n)
zero_or_more zero = inl refl
zero_or_more (suc n) = inr (omega arith)

somewhere : (limit id : ℕ) (lists : ℕ → List PlainDatum) → times_held limit id lists ≡ 1 → (h : ℕ) × (h < limit) × (times id (lists h) ≡ 1)
unfolding times_held
somewhere zero id lists e = absurd (omega (arith, e))
somewhere (suc limit) id lists e = elim (zero_or_more (times id (lists limit))) [
  | inl none ↦ let below = somewhere limit id lists (omega (arith, e, none)) in (below.0, omega (arith, below.1), below.2)
  | inr some ↦ (limit, omega arith, omega (arith, e, some))
]

at_least : (limit id h : ℕ) (lists : ℕ → List PlainDatum) → h < limit → times id (lists h) ≤ times_held limit id lists
unfolding times_held
at_least zero id h lists lt = absurd (omega arith)
at_least (suc limit) id h lists lt = by_test (eqb limit h)
    (λ e. let here : limit ≡ h = grind arith in let same = ap (λ (k : ℕ). times id (lists k)) here in omega (arith, same))
    (λ e. let below : h < limit = grind arith in omega (arith, at_least limit id h lists below))

one_where : (id n k : ℕ) → id < n → k ≡ (if ltb id n then 1 else 0) → k ≡ 1
one_where id n k lt e = grind arith

where_one : (id n k : ℕ) → 0 < k → k ≡ (if ltb id n then 1 else 0) → (id < n) × (k ≡ 1)
where_one id n k lt e = (grind arith, grind arith)

pub unfiled_held : (limit : ℕ) (ledger : PlainLedger) (lists : ℕ → List PlainDatum) → EachOnce limit ledger lists
    → (id : ℕ) → IsOutstanding ledger id ↔ ((h : ℕ) × (h < limit) × (times id (lists h) ≡ 1))
unfiled_held limit ledger lists once id =
    let total = once id in (
      (λ o. somewhere limit id lists (omega (arith, one_where id (length ledger.births) _ o.born total, unfiled_none id ledger.filed o.unfiled))),
      (λ w. let some = at_least limit id w.0 lists w.1 in
          let one = where_one id (length ledger.births) _ (omega (arith, some, w.2)) total in
          record { born = one.0; unfiled = none_unfiled id ledger.filed (omega (arith, one.1, some, w.2)) }),
    )

itself : (d : PlainDatum) (ds : List PlainDatum) → 0 < times d.id (d ∷ ds)
itself d ds = let same : eqb d.id d.id ≡ true = grind arith in rw same (omega arith)

each_counted : (P : ℕ → Type 0) (ds : List PlainDatum) → ((id : ℕ) → 0 < times id ds → P id) → AllByRecursion (λ (d : PlainDatum). P d.id) ds
each_counted P [] f = tt
each_counted P (d ∷ ds) f = (f d.id (itself d ds), each_counted P ds (λ id some. f id (omega (arith, some))))

at_most : (n k : ℕ) (b : Bool) → k ≤ n → n ≤ (if b then 1 else 0) → k ≤ 1
at_most n k true le e = omega (arith, e, le)
at_most n k false le e = omega (arith, e, le)

pub open_lists : (limit handle : ℕ) (ledger : PlainLedger) (lists : ℕ → List PlainDatum) → EachOnce limit ledger lists → handle < limit
    → AllByRecursion (λ (d : PlainDatum). IsOutstanding ledger d.id) (lists handle) × ((id : ℕ) → times id (lists handle) ≤ 1)
open_lists limit handle ledger lists once lt =
    let at_most_once : (id : ℕ) → times id (lists handle) ≤ 1 = λ id.
    at_most (times_held limit id lists) (times id (lists handle)) (ltb id (length ledger.births)) (at_least limit id handle lists lt) (omega (arith, once id)) in
    (each_counted (IsOutstanding ledger) (lists handle) (λ id some. (unfiled_held limit ledger lists once id).1 (handle, lt, omega (arith, some, at_most_once id))), at_most_once)

pub all_filed : (limit : ℕ) (ledger : PlainLedger) (lists : ℕ → List PlainDatum) → EachOnce limit ledger lists
    → ((h : ℕ) → h < limit → lists h ≡ []) → (id : ℕ) → id < length ledger.births → is_filed ledger id ≡ true
all_filed limit ledger lists once none id born = by_test (is_filed ledger id) (λ e. e) (λ e.
    let there = (unfiled_held limit ledger lists once id).0 (record { born = born; unfiled = e }) in
    absurd (omega (arith, there.2, ap (times id) (none there.0 there.1))))

-- without data there are no records
placed_some : (live : List PlainDatum) (d : PlainDatum) → 0 < length (with_datum live d)
placed_some [] d = omega arith
placed_some (x ∷ xs) d = by_test (bytes_eq x.name d.name) (λ e. rw e (omega arith)) (λ e. rw e (omega arith))

some_stay : (live : List PlainDatum) (bs : List Birth) → 0 < length live → 0 < length (with_births live bs)
some_stay live [] lt = lt
some_stay live (b ∷ bs) lt = some_stay (with_datum live (datum_of b)) bs (placed_some live (datum_of b))

none_born : (bs : List Birth) → with_births [] bs ≡ [] → bs ≡ []
none_born [] e = refl
none_born (b ∷ bs) e = absurd (omega (arith, some_stay (datum_of b ∷ []) bs (omega arith), ap length e))

pub none_where_none : (handle : ℕ) (events : List Event) → (data_held handle events ≡ []) ↔ (births_since handle events ≡ [])
none_where_none handle events = (none_born (births_since handle events), λ e. ap (with_births []) e)
