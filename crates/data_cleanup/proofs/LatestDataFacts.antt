-- All data in a transaction's list are the latest that were set under their name.
use Rattle.std.proofs.Common.{◌≡◌, ℕ, ◌+◌, ◌<◌, true, false, eqb, arith, List, [], ◌∷◌, ◌++◌, length, map, reverse, refl, sym, ap, subst, ◌∙◌}
use Rattle.std.specs.List.{AllByRecursion}
use Rattle.std.specs.Str.{bytes_eq}
use Rattle.std.proofs.lemmas.List.{reverse-append, reverse-reverse, append-nil, length-reverse}
use Rattle.data_cleanup.specs.Datum.{PlainDatum}
use Rattle.data_cleanup.specs.DataList.{datum_of, with_datum}
use Rattle.data_cleanup.specs.Ledger.{AreNumbered}
use Rattle.data_cleanup.specs.Due.{Event, birth, ends, since_end}
use Rattle.data_cleanup.specs.declared.datum.Birth.{Birth}
use Rattle.data_cleanup.specs.Holding.{data_held}
use Rattle.data_cleanup.specs.Latest.{IsLatest}
use Rattle.data_cleanup.specs.Modelled.{births_of}
use Rattle.data_cleanup.proofs.DataNameFacts.{by_test, name_is, name_same, Apart, has}
use Rattle.data_cleanup.proofs.NewestFirstFacts.{hold_back, apart_back, with_births-reverse}
use Rattle.data_cleanup.proofs.Every.{every, every-reverse}

-- the data that were set, the newest first
abbrev pub births_back : List Event → List Birth
births_back [] = []
births_back (birth b ∷ past) = b ∷ births_back past
births_back (ends h status ∷ past) = births_back past

abbrev pub NumberedBack : List Birth → Type 0
NumberedBack [] = Unit {0}
NumberedBack (b ∷ before) = (b.id ≡ length before) × NumberedBack before

pub ids_below : (births : List Birth) → NumberedBack births → AllByRecursion (λ (b : Birth). b.id < length births) births
ids_below [] is = tt
ids_below (b ∷ before) is = (omega (arith, is.0), every _ _ (λ (c : Birth) (lt : c.id < length before). omega (arith, lt)) before (ids_below before is.1))

-- what holds of each of them after data was set
placed_each : (P Q : PlainDatum → Type 0) (d : PlainDatum) (live : List PlainDatum) → Apart live → AllByRecursion P live → Q d
    → ((x : PlainDatum) → P x → bytes_eq x.name d.name ≡ false → Q x) → AllByRecursion Q (with_datum live d)
placed_each P Q d [] apart all new old = (new, tt)
placed_each P Q d (x ∷ xs) apart all new old = by_test (bytes_eq x.name d.name)
    (λ e. rw e (new, others xs (rw (name_is x.name d.name e) at apart.0) all.1))
    (λ e. rw e (old x all.0 e, placed_each P Q d xs apart.1 all.1 new old)) where
      others : (ys : List PlainDatum) → has d.name ys ≡ false → AllByRecursion P ys → AllByRecursion Q ys
      others [] none ps = tt
      others (y ∷ ys) none ps = by_test (bytes_eq y.name d.name)
          (λ e. absurd (let no : true ≡ false = rw e at none in cc))
          (λ e. (old y ps.0 e, others ys (rw e at none) ps.1))

-- data is set again
kept_other : (handle : ℕ) (b : Birth) (births : List Birth) (d : PlainDatum) → b.id ≡ length births → (b.handle ≡ handle → b.name ≡ d.name → ⊥)
    → IsLatest handle births d → IsLatest handle (b ∷ births) d
kept_other handle b births d number apart l = record {
  below = omega (arith, l.below);
  is = (λ e. absurd (omega (arith, e, number, l.below)), l.is);
  latest = (λ lt same name. apart same name, l.latest);
}

newest : (b : Birth) (births : List Birth) → b.id ≡ length births → NumberedBack births → IsLatest b.handle (b ∷ births) (datum_of b)
newest b births number numbered = record {
  below = omega (arith, number);
  is = (λ e. (refl, refl), every (λ (c : Birth). c.id < length births) (λ (c : Birth). c.id ≡ b.id → (datum_of c ≡ datum_of b) × (c.handle ≡ b.handle)) (λ c lt e. absurd (omega (arith, lt, e, number))) births (ids_below births numbered));
  latest = (λ lt same name. omega (arith, lt), every (λ (c : Birth). c.id < length births) (λ (c : Birth). b.id < c.id → c.handle ≡ b.handle → c.name ≡ b.name → ⊥) (λ c lt after same name. omega (arith, lt, after, number)) births (ids_below births numbered));
}

pub latest_back : (handle : ℕ) (past : List Event) → NumberedBack (births_back past)
    → AllByRecursion (IsLatest handle (births_back past)) (hold_back (since_end handle past))
latest_back handle [] is = tt
latest_back handle (ends h status ∷ past) is = by_test (eqb h handle) (λ e. rw e tt) (λ e. rw e (latest_back handle past is))
latest_back handle (birth b ∷ past) is = by_test (eqb b.handle handle)
    (λ e. let here : b.handle ≡ handle = grind arith in
    rw e (placed_each _ _ (datum_of b) (hold_back (since_end handle past)) (apart_back (since_end handle past)) (latest_back handle past is.1)
    (subst (λ (h : ℕ). IsLatest h (births_back (birth b ∷ past)) (datum_of b)) here (newest b (births_back past) is.0 is.1))
    (λ (x : PlainDatum) (l : IsLatest handle (births_back past) x) (other : bytes_eq x.name b.name ≡ false). kept_other handle b (births_back past) x is.0
    (λ same name. let same_name : bytes_eq x.name b.name ≡ true = rw (sym name) (name_same b.name) in cc) l)))
    (λ e. let away : b.handle ≡ handle → ⊥ = λ same. (let t : eqb b.handle handle ≡ true = grind arith in cc) in
    rw e (every _ _ (λ (x : PlainDatum) (l : IsLatest handle (births_back past) x). kept_other handle b (births_back past) x is.0 (λ same name. away same) l) _ (latest_back handle past is.1)))

-- the same for the events in order
births_of-append : (xs ys : List Event) → births_of (xs ++ ys) ≡ births_of xs ++ births_of ys
births_of-append [] ys = refl
births_of-append (birth b ∷ xs) ys = ap (λ (bs : List Birth). b ∷ bs) (births_of-append xs ys)
births_of-append (ends h s ∷ xs) ys = births_of-append xs ys

pub births_of-births : (events : List Event) (births : List Birth) → births_of (events ++ map birth births) ≡ births_of events ++ births
births_of-births events births = births_of-append events (map birth births) ∙ ap (λ (bs : List Birth). births_of events ++ bs) (these births) where
  these : (bs : List Birth) → births_of (map birth bs) ≡ bs
  these [] = refl
  these (b ∷ bs) = ap (λ (rest : List Birth). b ∷ rest) (these bs)

pub births_of-end : (events : List Event) (handle status : ℕ) → births_of (events ++ ends handle status ∷ []) ≡ births_of events
births_of-end events handle status = births_of-append events (ends handle status ∷ []) ∙ append-nil (births_of events)

births_of-reverse : (past : List Event) → births_of (reverse past) ≡ reverse (births_back past)
births_of-reverse [] = refl
births_of-reverse (birth b ∷ past) =
    ap births_of (reverse-append (birth b ∷ []) past) ∙ births_of-append (reverse past) (birth b ∷ [])
    ∙ ap (λ (bs : List Birth). bs ++ b ∷ []) (births_of-reverse past) ∙ sym (reverse-append (b ∷ []) (births_back past))
births_of-reverse (ends h s ∷ past) =
    ap births_of (reverse-append (ends h s ∷ []) past) ∙ births_of-append (reverse past) (ends h s ∷ []) ∙ append-nil (births_of (reverse past)) ∙ births_of-reverse past

pub births_are : (events : List Event) → births_of events ≡ reverse (births_back (reverse events))
births_are events = ap births_of (sym (reverse-reverse events)) ∙ births_of-reverse (reverse events)

numbered-parts : (n : ℕ) (xs : List Birth) (b : Birth) → AreNumbered n (xs ++ b ∷ []) → AreNumbered n xs × (b.id ≡ n + length xs)
numbered-parts n [] b is = (tt, omega (arith, is.0))
numbered-parts n (x ∷ xs) b is = let rest = numbered-parts (n + 1) xs b is.1 in ((is.0, rest.0), omega (arith, rest.1))

numbered_back : (births : List Birth) → AreNumbered 0 (reverse births) → NumberedBack births
numbered_back [] is = tt
numbered_back (b ∷ before) is =
    let parts = numbered-parts 0 (reverse before) b (subst (AreNumbered 0) (reverse-append (b ∷ []) before) is) in
    (omega (arith, parts.1, length-reverse before), numbered_back before parts.0)

latest-reverse : (handle : ℕ) (births : List Birth) (d : PlainDatum) → IsLatest handle births d → IsLatest handle (reverse births) d
latest-reverse handle births d l = record { below = omega (arith, l.below, length-reverse births); is = every-reverse _ births l.is; latest = every-reverse _ births l.latest }

-- what a transaction holds is the latest data of each name
pub held_latest : (handle : ℕ) (events : List Event) → AreNumbered 0 (births_of events)
    → AllByRecursion (IsLatest handle (births_of events)) (data_held handle events)
held_latest handle events numbered =
    let past = reverse events in
    let back = latest_back handle past (numbered_back (births_back past) (subst (AreNumbered 0) (births_are events) numbered)) in
    rw (births_are events, with_births-reverse (since_end handle past))
    (every (IsLatest handle (births_back past)) (IsLatest handle (reverse (births_back past))) (λ d l. latest-reverse handle (births_back past) d l) (hold_back (since_end handle past)) back)
