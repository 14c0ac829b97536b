-- Data are set, and those that they replace get their cleanup records.
use Rattle.std.proofs.Common.{◌≡◌, ℕ, ◌+◌, ◌<◌, ◌≤◌, Bool, true, false, cond, if◌then◌else◌, eqb, List, [], ◌∷◌, ◌++◌, length, map, refl, sym, ap, subst, ◌∙◌, append_assoc, arith, length-append}
use Rattle.std.specs.List.{AllByRecursion, list_any}
use Rattle.std.specs.Str.{bytes_eq}
use Rattle.std.proofs.lemmas.List.{map-append, append-nil}
use Rattle.std.proofs.lemmas.Bool.{eqb-true}
use Rattle.data_cleanup.specs.Datum.{PlainDatum}
use Rattle.data_cleanup.specs.DataList.{PlainDataList, birth_of, datum_of, with_datum, data_named, hold, hold_all}
use Rattle.data_cleanup.specs.Ledger.{PlainLedger, IsSound, AreNumbered, filed_ids}
use Rattle.data_cleanup.specs.Cleanup.{Notes, AwaitsCleanup, AwaitCleanup, times, receipts_for, data_replace, swept_list, swept_ledger}
use Rattle.data_cleanup.specs.Sets.{IsBy, Sets}
use Rattle.data_cleanup.specs.Grows.{IsOf, AreSwept, Grows, replacements, with_births}
use Rattle.data_cleanup.specs.declared.datum.Birth.{Birth}
use Rattle.data_cleanup.specs.declared.receipt.Filed.{Filed}
use Rattle.data_cleanup.proofs.CleanupRecordFacts.{times-append, all-append, all-front, all-back}
use Rattle.data_cleanup.proofs.GrowthFacts.{list_is}
use Rattle.data_cleanup.proofs.Sound.{ids_below}

pub all-map : {A : Type 0} (P Q : A → Type 0) (xs : List A) → ((x : A) → P x → Q x) → AllByRecursion P xs → AllByRecursion Q xs
all-map P Q [] f a = tt
all-map P Q (x ∷ xs) f a = (f x a.0, all-map P Q xs f a.1)

-- how often an id occurs in the list and among the replaced data
times_cases : (b : Bool) (id : ℕ) (d new : PlainDatum) (ds out in_place : List PlainDatum)
    → times id out + times id in_place ≡ times id ds + times id (new ∷ [])
    → times id (if b then d ∷ [] else out) + times id (if b then new ∷ ds else d ∷ in_place) ≡ times id (d ∷ ds) + times id (new ∷ [])
times_cases true id d new ds out in_place ih = omega arith
times_cases false id d new ds out in_place ih = omega (arith, ih)

placed_times : (id : ℕ) (live : List PlainDatum) (new : PlainDatum)
    → times id (data_named live new.name) + times id (with_datum live new) ≡ times id live + times id (new ∷ [])
placed_times id [] new = refl
placed_times id (d ∷ ds) new = times_cases (bytes_eq d.name new.name) id d new ds (data_named ds new.name) (with_datum ds new) (placed_times id ds new)

all_cases : (P : PlainDatum → Type 0) (b : Bool) (d new : PlainDatum) (ds out in_place : List PlainDatum) → P d → P new → AllByRecursion P ds
    → AllByRecursion P out × AllByRecursion P in_place
    → AllByRecursion P (if b then d ∷ [] else out) × AllByRecursion P (if b then new ∷ ds else d ∷ in_place)
all_cases P true d new ds out in_place here made all ih = ((here, tt), (made, all))
all_cases P false d new ds out in_place here made all ih = (ih.0, (here, ih.1))

all_placed : (P : PlainDatum → Type 0) (live : List PlainDatum) (new : PlainDatum) → AllByRecursion P live → P new
    → AllByRecursion P (data_named live new.name) × AllByRecursion P (with_datum live new)
all_placed P [] new all made = (tt, (made, tt))
all_placed P (d ∷ ds) new all made = all_cases P (bytes_eq d.name new.name) d new ds (data_named ds new.name) (with_datum ds new) all.0 made all.1 (all_placed P ds new all.1 made)

all_held : (P : PlainDatum → Type 0) (h : PlainDataList) (b : Birth) → AllByRecursion P (h.gone ++ h.live) → P (datum_of b)
    → AllByRecursion P ((hold h b).gone ++ (hold h b).live)
all_held P h b all made =
    let both = all_placed P h.live (datum_of b) (all-back P h.gone h.live all) made in
    all-append P _ _ (all-append P _ _ (all-front P h.gone h.live all) both.0) both.1

held_times : (id : ℕ) (h : PlainDataList) (b : Birth) → times id ((hold h b).gone ++ (hold h b).live) ≡ times id (h.gone ++ h.live) + times id (datum_of b ∷ [])
held_times id h b =
    let one = times-append id (h.gone ++ data_named h.live b.name) (with_datum h.live (datum_of b)) in
    let two = times-append id h.gone (data_named h.live b.name) in
    let three = times-append id h.gone h.live in
    let four = placed_times id h.live (datum_of b) in
    omega (arith, one, two, three, four)

-- the ids in the list are smaller than this one
not_below : (b : Bool) (n id : ℕ) → (b ≡ true → id ≡ n) → id < n → b ≡ false
not_below true n id same lt = absurd (omega (arith, same refl))
not_below false n id same lt = refl

absent : (n : ℕ) (ds : List PlainDatum) → AllByRecursion (λ (d : PlainDatum). d.id < n) ds → times n ds ≡ 0
absent n [] all = refl
absent n (d ∷ ds) all = rw (not_below (eqb d.id n) n d.id (λ t. eqb-true d.id n t) all.0) (let e : times n ds ≡ 0 = absent n ds all.1 in omega (arith, e))

record IsSetting (modules n : ℕ) (filed : List Filed) (d : PlainDatum) : Type 0 where
  below : d.id < n
  unfiled : list_any (eqb d.id) (filed_ids filed) ≡ false
  owner : d.owner < modules

record AreSetting (modules n : ℕ) (filed : List Filed) (ds : List PlainDatum) : Type 0 where
  each : AllByRecursion (IsSetting modules n filed) ds
  once : (id : ℕ) → times id ds ≤ 1

new_times : (b : Bool) (n id : ℕ) (ds : List PlainDatum) → (b ≡ true → n ≡ id) → times n ds ≡ 0 → times id ds ≤ 1 → times id ds + (cond b 1 0 + 0) ≤ 1
new_times true n id ds same none le = let e : times id ds ≡ 0 = subst (λ k. times k ds ≡ 0) (same refl) none in omega (arith, e)
new_times false n id ds same none le = omega (arith, le)

setting_one : (modules n : ℕ) (filed : List Filed) (h : PlainDataList) (b : Birth) → b.id ≡ n → b.owner < modules → list_any (eqb n) (filed_ids filed) ≡ false
    → AreSetting modules n filed (h.gone ++ h.live) → AreSetting modules (n + 1) filed ((hold h b).gone ++ (hold h b).live)
setting_one modules n filed h b is owner unfiled s = record {
  each = all_held (IsSetting modules (n + 1) filed) h b (all-map _ _ _ (λ (d : PlainDatum) (p : IsSetting modules n filed d). record { below = omega (arith, p.below); unfiled = p.unfiled; owner = p.owner }) s.each)
      (record { below = omega (arith, is); unfiled = rw is unfiled; owner = owner });
  once = λ id. rw (held_times id h b) (new_times (eqb b.id id) n id (h.gone ++ h.live) (λ t. sym is ∙ eqb-true b.id id t) (absent n _ (all-map _ _ _ (λ (d : PlainDatum) (p : IsSetting modules n filed d). p.below) s.each)) (s.once id));
}

setting_all : (modules handle owner n : ℕ) (filed : List Filed) (h : PlainDataList) (bs : List Birth) → AreNumbered n bs
    → AllByRecursion (IsBy handle owner) bs → owner < modules
    → ((k : ℕ) → n ≤ k → list_any (eqb k) (filed_ids filed) ≡ false)
    → AreSetting modules n filed (h.gone ++ h.live) → AreSetting modules (n + length bs) filed ((hold_all h bs).gone ++ (hold_all h bs).live)
setting_all modules handle owner n filed h [] numbered by within fresh s = subst (λ k. AreSetting modules k filed (h.gone ++ h.live)) (let e : n ≡ n + 0 = omega arith in e) s
setting_all modules handle owner n filed h (b ∷ bs) numbered by within fresh s =
    let next = setting_one modules n filed h b numbered.0 (omega (arith, by.0.owner_is, within)) (fresh n (omega arith)) s in
    let rest = setting_all modules handle owner (n + 1) filed (hold h b) bs numbered.1 by.1 within (λ k le. fresh k (omega (arith, le))) next in
    subst (λ k. AreSetting modules k filed ((hold_all (hold h b) bs).gone ++ (hold_all (hold h b) bs).live)) (let e : n + 1 + length bs ≡ n + length (b ∷ bs) = omega arith in e) rest

numbered_back : (n : ℕ) (xs ys : List Birth) → AreNumbered n (xs ++ ys) → AreNumbered (n + length xs) ys
numbered_back n [] ys all = subst (λ k. AreNumbered k ys) (let e : n ≡ n + 0 = omega arith in e) all
numbered_back n (x ∷ xs) ys all = subst (λ k. AreNumbered k ys) (let e : n + 1 + length xs ≡ n + length (x ∷ xs) = omega arith in e) (numbered_back (n + 1) xs ys all.1)

numbered_below : (n : ℕ) (bs : List Birth) → AreNumbered n bs → AllByRecursion (λ (b : Birth). b.id < n + length bs) bs
numbered_below n [] all = tt
numbered_below n (b ∷ bs) all = (omega (arith, all.0), all-map _ _ bs (λ (x : Birth) (p : x.id < n + 1 + length bs). let q : x.id < n + length (b ∷ bs) = omega (arith, p) in q) (numbered_below (n + 1) bs all.1))

false_unless : (b : Bool) → (b ≡ true → ⊥) → b ≡ false
false_unless true h = absurd (h refl)
false_unless false h = refl

fresh : (births : List Birth) (filed : List Filed) → IsSound births filed → (k : ℕ) → length births ≤ k → list_any (eqb k) (filed_ids filed) ≡ false
fresh births filed sound k le = false_unless _ (λ t. omega (arith, le, ids_below (length births) k filed sound.born sound.marks t))

-- what the soundness of a cleanup log says about the sets that were added
added_numbered : (before after : PlainLedger) (added : List Birth) → after.births ≡ before.births ++ added → AreNumbered 0 after.births
    → AreNumbered (length before.births) added
added_numbered before after added e all = subst (λ k. AreNumbered k added) (let z : 0 + length before.births ≡ length before.births = omega arith in z) (numbered_back 0 before.births added (subst (AreNumbered 0) e all))

added_length : (before after : PlainLedger) (added : List Birth) → after.births ≡ before.births ++ added
    → length after.births ≡ length before.births + length added
added_length before after added e = ap length e ∙ length-append before.births added

-- Data that were set are open, and so are those that they replaced.
pub sets_await : (modules owner : ℕ) (old : PlainDataList) (before : PlainLedger) (new : PlainDataList) (after : PlainLedger)
    → IsSound before.births before.filed → AreNumbered 0 after.births → owner < modules
    → AwaitCleanup modules before (old.gone ++ old.live) → Sets owner old before new after → AwaitCleanup modules after (new.gone ++ new.live)
sets_await modules owner old before new after sound numbered within o s =
    let start : AreSetting modules (length before.births) before.filed (old.gone ++ old.live) = record {
      each = all-map (AwaitsCleanup modules before) _ (old.gone ++ old.live) (λ (d : PlainDatum) (p : AwaitsCleanup modules before d). record { below = p.outstanding.born; unfiled = p.outstanding.unfiled; owner = p.owner }) o.each;
      once = o.once;
    } in
    let all = setting_all modules old.handle owner (length before.births) before.filed old s.added (added_numbered before after s.added s.births numbered) s.each within (fresh before.births before.filed sound) start in
    let size = added_length before after s.added s.births in
    subst (λ (l : PlainDataList). AwaitCleanup modules after (l.gone ++ l.live)) (sym s.list) (record {
      each = all-map (IsSetting modules (length before.births + length s.added) before.filed) (AwaitsCleanup modules after) _ (λ (d : PlainDatum) (p : IsSetting modules (length before.births + length s.added) before.filed d). record {
        outstanding = record { born = omega (arith, size, p.below); unfiled = rw s.filed p.unfiled };
        owner = p.owner;
      }) all.each;
      once = all.once;
    })

firsts_paired : (id : ℕ) (ds : List PlainDatum) → map (λ (r : PlainDatum × ℕ). r.0) (map (λ (d : PlainDatum). (d, id)) ds) ≡ ds
firsts_paired id [] = refl
firsts_paired id (d ∷ ds) = ap (λ (xs : List PlainDatum). d ∷ xs) (firsts_paired id ds)

pub held_live : (h : PlainDataList) (bs : List Birth) → (hold_all h bs).live ≡ with_births h.live bs
held_live h [] = refl
held_live h (b ∷ bs) = held_live (hold h b) bs

pub held_gone : (h : PlainDataList) (bs : List Birth) → (hold_all h bs).gone ≡ h.gone ++ map (λ (r : PlainDatum × ℕ). r.0) (replacements h.live bs)
held_gone h [] = sym (append-nil h.gone)
held_gone h (b ∷ bs) =
    held_gone (hold h b) bs
    ∙ append_assoc h.gone (data_named h.live b.name) (map (λ (r : PlainDatum × ℕ). r.0) (replacements (with_datum h.live (datum_of b)) bs))
    ∙ ap (λ (xs : List PlainDatum). h.gone ++ xs) (
    ap (λ (xs : List PlainDatum). xs ++ map (λ (r : PlainDatum × ℕ). r.0) (replacements (with_datum h.live (datum_of b)) bs)) (sym (firsts_paired b.id (data_named h.live b.name)))
    ∙ sym (map-append (λ (r : PlainDatum × ℕ). r.0) (map (λ (d : PlainDatum). (d, b.id)) (data_named h.live b.name)) (replacements (with_datum h.live (datum_of b)) bs))
    )

all_paired : (n id : ℕ) (ds : List PlainDatum) → id < n → AllByRecursion (λ (r : PlainDatum × ℕ). r.1 < n) (map (λ (d : PlainDatum). (d, id)) ds)
all_paired n id [] lt = tt
all_paired n id (d ∷ ds) lt = (lt, all_paired n id ds lt)

replaced_below : (n : ℕ) (live : List PlainDatum) (bs : List Birth) → AllByRecursion (λ (b : Birth). b.id < n) bs
    → AllByRecursion (λ (r : PlainDatum × ℕ). r.1 < n) (replacements live bs)
replaced_below n live [] all = tt
replaced_below n live (b ∷ bs) all = all-append _ _ _ (all_paired n b.id (data_named live b.name) all.0) (replaced_below n (with_datum live (datum_of b)) bs all.1)

all_swept : (note : Notes) (n : ℕ) (rs : List (PlainDatum × ℕ)) → AllByRecursion (λ (r : PlainDatum × ℕ). r.1 < n) rs
    → AreSwept note n rs (receipts_for note data_replace n (map (λ (r : PlainDatum × ℕ). r.0) rs))
all_swept note n [] all = tt
all_swept note n (r ∷ rs) all = (record { id = refl; status = refl; by_owner = refl; after = all.0; within = omega arith }, all_swept note n rs all.1)

held_handle : (h : PlainDataList) (bs : List Birth) → (hold_all h bs).handle ≡ h.handle
held_handle h [] = refl
held_handle h (b ∷ bs) = held_handle (hold h b) bs

-- Data that were set, with the cleanup of those that they replaced, are growth.
pub sets_grow : (note : Notes) (modules owner : ℕ) (old : PlainDataList) (before : PlainLedger) (mid : PlainDataList) (after : PlainLedger)
    → AreNumbered 0 after.births → owner < modules → old.gone ≡ [] → Sets owner old before mid after
    → Grows note modules old before (swept_list mid) (swept_ledger note mid after)
sets_grow note modules owner old before mid after numbered within none s =
    let size = added_length before after s.added s.births in
    let gone : mid.gone ≡ map (λ (r : PlainDatum × ℕ). r.0) (replacements old.live s.added) = ap (λ (l : PlainDataList). l.gone) s.list ∙ held_gone old s.added ∙ rw none refl in
    let ids : AllByRecursion (λ (b : Birth). b.id < length after.births) s.added = rw size (numbered_below (length before.births) s.added (added_numbered before after s.added s.births numbered)) in
    record {
      added = s.added;
      receipts = receipts_for note data_replace (length after.births) mid.gone;
      births = s.births;
      each = all-map (IsBy old.handle owner) (IsOf modules old.handle) s.added (λ (b : Birth) (p : IsBy old.handle owner b). record { handle_is = p.handle_is; owner_is = omega (arith, p.owner_is, within) }) s.each;
      list = list_is _ _ _ _ (ap (λ (l : PlainDataList). l.handle) s.list ∙ held_handle old s.added) (ap (λ (l : PlainDataList). l.live) s.list ∙ held_live old s.added);
      filed = ap (λ (fs : List Filed). fs ++ receipts_for note data_replace (length after.births) mid.gone) s.filed;
      swept = subst (λ (ds : List PlainDatum). AreSwept note (length after.births) (replacements old.live s.added) (receipts_for note data_replace (length after.births) ds)) (sym gone) (all_swept note (length after.births) (replacements old.live s.added) (replaced_below (length after.births) old.live s.added ids));
    }

-- Nothing was set.
pub sets_none : (owner : ℕ) (l : PlainDataList) (ledger : PlainLedger) → Sets owner l ledger l ledger
sets_none owner l ledger = record { added = []; births = sym (append-nil ledger.births); each = tt; list = refl; filed = refl }

-- One set.
pub sets_one : (owner : ℕ) (old new : PlainDataList) (before after : PlainLedger) (name payload : List ℕ)
    → new ≡ hold old (birth_of (length before.births) old.handle owner name payload)
    → after ≡ record { births = before.births ++ birth_of (length before.births) old.handle owner name payload ∷ []; filed = before.filed }
    → Sets owner old before new after
sets_one owner old new before after name payload list ledger = record {
  added = birth_of (length before.births) old.handle owner name payload ∷ [];
  births = ap (λ (l : PlainLedger). l.births) ledger;
  each = (record { handle_is = refl; owner_is = refl }, tt);
  list = list;
  filed = ap (λ (l : PlainLedger). l.filed) ledger;
}

hold_all-append : (h : PlainDataList) (xs ys : List Birth) → hold_all h (xs ++ ys) ≡ hold_all (hold_all h xs) ys
hold_all-append h [] ys = refl
hold_all-append h (x ∷ xs) ys = hold_all-append (hold h x) xs ys

-- Some sets, and then more.
pub sets_transitive : (owner : ℕ) (x y z : PlainDataList) (a b c : PlainLedger) → Sets owner x a y b → Sets owner y b z c → Sets owner x a z c
sets_transitive owner x y z a b c s t =
    let handle : y.handle ≡ x.handle = ap (λ (l : PlainDataList). l.handle) s.list ∙ held_handle x s.added in
    record {
      added = s.added ++ t.added;
      births = t.births ∙ rw s.births (append_assoc a.births s.added t.added);
      each = all-append _ s.added t.added s.each (subst (λ n. AllByRecursion (IsBy n owner) t.added) handle t.each);
      list = t.list ∙ rw s.list (sym (hold_all-append x s.added t.added));
      filed = t.filed ∙ s.filed;
    }
