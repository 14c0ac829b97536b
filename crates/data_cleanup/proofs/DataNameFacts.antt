-- Names in a list of data.
use Rattle.std.proofs.Common.{◌≡◌, ℕ, Bool, true, false, ◌||◌, if◌then◌else◌, List, [], ◌∷◌, ◌++◌, map, refl, sym, ap, ◌∙◌}
use Rattle.std.specs.List.{list_any}
use Rattle.std.specs.Str.{bytes_eq}
use Rattle.std.proofs.lemmas.Slice.Eq.{bytes_eq-Decides}
use Rattle.std.proofs.lemmas.List.{append-nil}
use Rattle.data_cleanup.specs.Datum.{PlainDatum}
use Rattle.data_cleanup.specs.DataList.{data_named, with_datum}

pub by_test : {P : Type 0} (b : Bool) → (b ≡ true → P) → (b ≡ false → P) → P
by_test true t f = t refl
by_test false t f = f refl

false_unless : (b : Bool) → (b ≡ true → ⊥) → b ≡ false
false_unless true h = absurd (h refl)
false_unless false h = refl

pub name_is : (x y : List ℕ) → bytes_eq x y ≡ true → x ≡ y
name_is x y e = (bytes_eq-Decides x y).0 e

pub name_same : (x : List ℕ) → bytes_eq x x ≡ true
name_same x = (bytes_eq-Decides x x).1 refl

pub names_agree : (x y n : List ℕ) → bytes_eq x y ≡ true → bytes_eq x n ≡ bytes_eq y n
names_agree x y n e = ap (λ (m : List ℕ). bytes_eq m n) (name_is x y e)

pub names_differ : (x y n : List ℕ) → bytes_eq x y ≡ false → bytes_eq x n ≡ true → bytes_eq y n ≡ false
names_differ x y n e t = false_unless (bytes_eq y n) (λ s.
    let here : x ≡ n = name_is x n t in
    let there : y ≡ n = name_is y n s in
    let same : bytes_eq x y ≡ true = (bytes_eq-Decides x y).1 (here ∙ sym there) in
    cc)

pub names_flip : (x y : List ℕ) → bytes_eq x y ≡ false → bytes_eq y x ≡ false
names_flip x y e = false_unless (bytes_eq y x) (λ s.
    let there : y ≡ x = name_is y x s in
    let same : bytes_eq x y ≡ true = (bytes_eq-Decides x y).1 (sym there) in
    cc)

-- the data of a name in a list after data was set
pub data_named-with_datum : (live : List PlainDatum) (d : PlainDatum) (n : List ℕ)
    → data_named (with_datum live d) n ≡ (if bytes_eq d.name n then d ∷ [] else data_named live n)
data_named-with_datum [] d n = refl
data_named-with_datum (x ∷ xs) d n = by_test (bytes_eq x.name d.name)
    (λ e. rw (e, names_agree x.name d.name n e) (by_test (bytes_eq d.name n) (λ t. rw t refl) (λ t. rw t refl)))
    (λ e. rw e (by_test (bytes_eq x.name n) (λ t. rw (t, names_differ x.name d.name n e t) refl) (λ t. rw t (data_named-with_datum xs d n))))

abbrev pub has : List ℕ → List PlainDatum → Bool
has n ds = list_any (λ (d : PlainDatum). bytes_eq d.name n) ds

or_idem : (b c : Bool) → (b || c) ≡ (b || (b || c))
or_idem true c = refl
or_idem false c = refl

or_swap : (a b c : Bool) → (a || (b || c)) ≡ (b || (a || c))
or_swap true true c = refl
or_swap true false c = refl
or_swap false b c = refl

pub has-with_datum : (live : List PlainDatum) (d : PlainDatum) (n : List ℕ) → has n (with_datum live d) ≡ (bytes_eq d.name n || has n live)
has-with_datum [] d n = refl
has-with_datum (x ∷ xs) d n = by_test (bytes_eq x.name d.name)
    (λ e. rw (e, names_agree x.name d.name n e) (or_idem (bytes_eq d.name n) (has n xs)))
    (λ e. rw (e, has-with_datum xs d n) (or_swap (bytes_eq x.name n) (bytes_eq d.name n) (has n xs)))

-- no two data have the same name
abbrev pub Apart : List PlainDatum → Type 0
Apart [] = Unit {0}
Apart (d ∷ ds) = (has d.name ds ≡ false) × Apart ds

pub apart-with_datum : (live : List PlainDatum) (d : PlainDatum) → Apart live → Apart (with_datum live d)
apart-with_datum [] d a = (refl, tt)
apart-with_datum (x ∷ xs) d a = by_test (bytes_eq x.name d.name)
    (λ e. rw e (rw (name_is x.name d.name e) at a.0, a.1))
    (λ e. rw e (rw (has-with_datum xs d x.name, names_flip x.name d.name e) a.0, apart-with_datum xs d a.1))

-- new data take the place of those with their name
abbrev pub renewed : PlainDatum → List PlainDatum → List PlainDatum
renewed new ds = map (λ (d : PlainDatum). if bytes_eq d.name new.name then new else d) ds

pub renewed_none : (live : List PlainDatum) (d : PlainDatum) → has d.name live ≡ false → renewed d live ≡ live
renewed_none [] d none = refl
renewed_none (x ∷ xs) d none = by_test (bytes_eq x.name d.name)
    (λ e. let no : (bytes_eq x.name d.name || has d.name xs) ≡ false = none in absurd (let c : true ≡ false = rw e at no in cc))
    (λ e. rw e (ap (λ (ys : List PlainDatum). x ∷ ys) (renewed_none xs d (rw e at none))))

pub placed_is : (live : List PlainDatum) (d : PlainDatum) → Apart live → with_datum live d ≡ renewed d live ++ (if has d.name live then [] else d ∷ [])
placed_is [] d a = refl
placed_is (x ∷ xs) d a = by_test (bytes_eq x.name d.name)
    (λ e. let no : has d.name xs ≡ false = rw (name_is x.name d.name e) at a.0 in
    rw e (ap (λ (ys : List PlainDatum). d ∷ ys) (rw (renewed_none xs d no) (sym (append-nil xs)))))
    (λ e. rw e (ap (λ (ys : List PlainDatum). x ∷ ys) (placed_is xs d a.1)))
