-- Module data recorded among the sets of a cleanup log, and their cleanup records.
use Rattle.std.proofs.Common.{◌≡◌, ℕ, zero, suc, ◌+◌, Bool, true, false, nat_eq, if◌then◌else◌, List, [], ◌∷◌, ◌++◌, length, drop, map, reverse, Option, Some, slice_get, refl, sym, ap, ◌∙◌, subst, arith, append_assoc}
use Rattle.std.proofs.lemmas.Bool.Decides.{nat_tests}
use Rattle.std.proofs.lemmas.Grind.{flat_map-append}
use Rattle.std.proofs.lemmas.List.{map-append, reverse-append}
use Rattle.std.specs.List.{AllByRecursion, flat_map}
use Rattle.std.specs.Str.{bytes_eq}
use Rattle.data_cleanup.specs.Datum.{PlainDatum}
use Rattle.data_cleanup.specs.DataList.{PlainDataList, birth_of, datum_of, with_datum, data_named, hold, hold_all}
use Rattle.data_cleanup.specs.Ledger.{PlainLedger}
use Rattle.data_cleanup.specs.Cleanup.{Notes, receipts_for}
use Rattle.data_cleanup.specs.declared.datum.Birth.{Birth}
use Rattle.data_cleanup.specs.declared.receipt.Filed.{Filed}
use Rattle.pam_handle.specs.pam_room.specs.Module.{NamedData, births_of}
use Rattle.pam_library.specs.Alike.{Cleaned, IsOfBirth, IsRecorded, birth_without_id, cleaned_as, cleaned_after, cleaned_by, datum_without_id, own_filed, own_receipt, receipts_on}

-- ---- lists

all_appended : {A : Type 0} (P : A → Type 0) (xs ys : List A) → AllByRecursion P xs → AllByRecursion P ys → AllByRecursion P (xs ++ ys)
all_appended P [] ys a b = b
all_appended P (x ∷ xs) ys a b = (a.0, all_appended P xs ys a.1 b)

all_turned : {A : Type 0} (P : A → Type 0) (xs : List A) → AllByRecursion P xs → AllByRecursion P (reverse xs)
all_turned P [] a = tt
all_turned {A} P (x ∷ xs) a = subst (AllByRecursion P) (sym (reverse-append (x ∷ []) xs)) (all_appended P (reverse xs) (x ∷ []) (all_turned P xs a.1) (a.0, tt))

map_turned : {A B : Type 0} (f : A → B) (xs : List A) → map f (reverse xs) ≡ reverse (map f xs)
map_turned f [] = refl
map_turned f (x ∷ xs) = ap (map f) (reverse-append (x ∷ []) xs) ∙ map-append f (reverse xs) (x ∷ []) ∙ ap (λ l. l ++ f x ∷ []) (map_turned f xs) ∙ sym (reverse-append (f x ∷ []) (map f xs))

all_more : {A : Type 0} (P Q : A → Type 0) → ((x : A) → P x → Q x) → (xs : List A) → AllByRecursion P xs → AllByRecursion Q xs
all_more P Q to [] a = tt
all_more P Q to (x ∷ xs) a = (to x a.0, all_more P Q to xs a.1)

look_further : (births more : List Birth) (i : ℕ) (b : Birth) → slice_get births i ≡ Some b → slice_get (births ++ more) i ≡ Some b
look_further [] more i b is = cc
look_further (x ∷ births) more zero b is = is
look_further (x ∷ births) more (suc i) b is = look_further births more i b is

look_after : (births more : List Birth) (b : Birth) → slice_get (births ++ b ∷ more) (length births) ≡ Some b
look_after [] more b = refl
look_after (x ∷ births) more b = look_after births more b

-- ---- sets that are added

pub still_recorded : (number : ℕ) (births more : List Birth) (ds : List PlainDatum) → AllByRecursion (IsRecorded number births) ds
    → AllByRecursion (IsRecorded number (births ++ more)) ds
still_recorded number births more ds a = all_more (IsRecorded number births) (IsRecorded number (births ++ more)) (λ d is. look_further births more d.id (birth_of d.id number d.owner d.name d.payload) is) ds a

pub still_of_births : (births more : List Birth) (fs : List Filed) → AllByRecursion (IsOfBirth births) fs → AllByRecursion (IsOfBirth (births ++ more)) fs
still_of_births births more fs a = all_more (IsOfBirth births) (IsOfBirth (births ++ more)) (λ f is. (is.0, look_further births more f.receipt.id is.0 is.1)) fs a

-- old cleanup records are found as before
pub receipts_stay : (n : ℕ) (births more : List Birth) (fs : List Filed) → AllByRecursion (IsOfBirth births) fs
    → flat_map (own_filed n (births ++ more)) fs ≡ flat_map (own_filed n births) fs
receipts_stay n births more [] a = refl
receipts_stay n births more (f ∷ fs) a =
    let head : own_filed n (births ++ more) f ≡ own_filed n births f =
    ap (λ (b : Option Birth). own_receipt n b f.receipt) (look_further births more f.receipt.id a.0.0 a.0.1 ∙ sym a.0.1) in
    let rest : flat_map (own_filed n (births ++ more)) fs ≡ flat_map (own_filed n births) fs = receipts_stay n births more fs a.1 in
    λ i. head i ++ rest i

-- a set of a number at the position of its id
abbrev Stands : ℕ → List Birth → Birth → Type 0
Stands number births b = slice_get births b.id ≡ Some (birth_of b.id number b.owner b.name b.payload)

all_may_precede : (number handle owner : ℕ) (before : List Birth) (ds : List NamedData) (id : ℕ) → id ≡ length before → handle ≡ number →
    AllByRecursion (Stands number (before ++ births_of id handle owner ds)) (births_of id handle owner ds)
all_may_precede number handle owner before [] id at same = tt
all_may_precede number handle owner before (d ∷ ds) id at same =
    let b : Birth = birth_of id handle owner d.name d.payload in
    let rest : List Birth = births_of (id + 1) handle owner ds in
    let here : slice_get (before ++ b ∷ rest) id ≡ Some b = ap (slice_get (before ++ b ∷ rest)) at ∙ look_after before rest b in
    let later : id + 1 ≡ length (before ++ b ∷ []) = omega (arith, length_with before b, at) in
    let joined : (before ++ b ∷ []) ++ rest ≡ before ++ b ∷ rest = append_assoc before (b ∷ []) rest in (
      here ∙ ap (λ (n : ℕ). Some (birth_of id n owner d.name d.payload)) same,
      subst (λ (all : List Birth). AllByRecursion (Stands number all) rest) joined (all_may_precede number handle owner (before ++ b ∷ []) ds (id + 1) later same),
    )
  where
    length_with : (bs : List Birth) (b : Birth) → length (bs ++ b ∷ []) ≡ length bs + 1
    length_with [] b = refl
    length_with (x ∷ bs) b = omega (arith, length_with bs b)

-- ---- data that are set

all_placed : (P : PlainDatum → Type 0) (ds : List PlainDatum) (d : PlainDatum) → AllByRecursion P ds → P d → AllByRecursion P (with_datum ds d)
all_placed P [] d a p = (p, tt)
all_placed P (e ∷ ds) d a p = elim (bytes_eq e.name d.name) as (λ (b : Bool). AllByRecursion P (if b then d ∷ ds else e ∷ with_datum ds d)) [
  | true ↦ (p, a.1)
  | false ↦ (a.0, all_placed P ds d a.1 p)
]

all_named : (P : PlainDatum → Type 0) (ds : List PlainDatum) (name : List ℕ) → AllByRecursion P ds → AllByRecursion P (data_named ds name)
all_named P [] name a = tt
all_named P (e ∷ ds) name a = elim (bytes_eq e.name name) as (λ (b : Bool). AllByRecursion P (if b then e ∷ [] else data_named ds name)) [
  | true ↦ (a.0, tt)
  | false ↦ all_named P ds name a.1
]

all_held : (P : PlainDatum → Type 0) (l : PlainDataList) (bs : List Birth) → AllByRecursion P l.live → AllByRecursion P l.gone
    → AllByRecursion (λ (b : Birth). P (datum_of b)) bs →
    AllByRecursion P (hold_all l bs).live × AllByRecursion P (hold_all l bs).gone
all_held P l [] live gone new = (live, gone)
all_held P l (b ∷ bs) live gone new =
    all_held P (hold l b) bs (all_placed P l.live (datum_of b) live new.0) (all_appended P l.gone (data_named l.live b.name) gone (all_named P l.live b.name live)) new.1

-- data that were recorded still are after others are set, and the others are too
pub set_recorded : (number handle owner : ℕ) (births : List Birth) (l : PlainDataList) (ds : List NamedData) → handle ≡ number →
    AllByRecursion (IsRecorded number births) l.live → AllByRecursion (IsRecorded number births) l.gone →
    AllByRecursion (IsRecorded number (births ++ births_of (length births) handle owner ds)) (hold_all l (births_of (length births) handle owner ds)).live
    × AllByRecursion (IsRecorded number (births ++ births_of (length births) handle owner ds)) (hold_all l (births_of (length births) handle owner ds)).gone
set_recorded number handle owner births l ds same live gone =
    let added : List Birth = births_of (length births) handle owner ds in
    all_held (IsRecorded number (births ++ added)) l added (still_recorded number births added l.live live) (still_recorded number births added l.gone gone)
    (all_may_precede number handle owner births ds (length births) refl same)

-- ---- data that are cleaned up

-- the cleanup records of a handle's data, as a number sees them
abbrev pub cleanings : ℕ → ℕ → Notes → ℕ → List PlainDatum → List Cleaned
cleanings n handle note status ds = flat_map (λ (d : PlainDatum). own_receipt n (Some (birth_of 0 handle d.owner d.name d.payload)) (record { id = 0; status = status; note = note d.owner d.payload status })) ds

pub cleanings_without_ids : (n handle : ℕ) (note : Notes) (status : ℕ) (ds : List PlainDatum)
    → cleanings n handle note status (map datum_without_id ds) ≡ cleanings n handle note status ds
cleanings_without_ids n handle note status [] = refl
cleanings_without_ids n handle note status (d ∷ ds) =
    ap (λ (l : List Cleaned). own_receipt n (Some (birth_of 0 handle d.owner d.name d.payload)) (record { id = 0; status = status; note = note d.owner d.payload status }) ++ l) (cleanings_without_ids n handle note status ds)

pub no_cleanings_of_another : (n handle : ℕ) (note : Notes) (status : ℕ) (ds : List PlainDatum) → nat_eq handle n ≡ false
    → cleanings n handle note status ds ≡ []
no_cleanings_of_another n handle note status [] other = refl
no_cleanings_of_another n handle note status (d ∷ ds) other =
    let c : Cleaned = record { birth = birth_of 0 handle d.owner d.name d.payload; status = status; note = note d.owner d.payload status } in
    ap (λ (b : Bool). (if b then c ∷ [] else []) ++ cleanings n handle note status ds) other ∙ no_cleanings_of_another n handle note status ds other

filed_now : (n handle : ℕ) (note : Notes) (status mark : ℕ) (births : List Birth) (ds : List PlainDatum) → AllByRecursion (IsRecorded handle births) ds →
    flat_map (own_filed n births) (receipts_for note status mark ds) ≡ cleanings n handle note status ds
filed_now n handle note status mark births [] a = refl
filed_now n handle note status mark births (d ∷ ds) a =
    let head : own_receipt n (slice_get births d.id) (record { id = d.id; status = status; note = note d.owner d.payload status }) ≡ own_receipt n (Some (birth_of 0 handle d.owner d.name d.payload)) (record { id = 0; status = status; note = note d.owner d.payload status }) =
    ap (λ (b : Option Birth). own_receipt n b (record { id = d.id; status = status; note = note d.owner d.payload status })) a.0 in
    let rest : flat_map (own_filed n births) (receipts_for note status mark ds) ≡ cleanings n handle note status ds = filed_now n handle note status mark births ds a.1 in
    λ i. head i ++ rest i

pub receipts_filed : (n handle : ℕ) (note : Notes) (status mark : ℕ) (births : List Birth) (fs : List Filed) (ds : List PlainDatum)
    → AllByRecursion (IsRecorded handle births) ds →
    flat_map (own_filed n births) (fs ++ receipts_for note status mark ds) ≡ flat_map (own_filed n births) fs ++ cleanings n handle note status ds
receipts_filed n handle note status mark births fs ds a =
    flat_map-append (own_filed n births) fs (receipts_for note status mark ds) ∙ ap (λ (l : List Cleaned). flat_map (own_filed n births) fs ++ l) (filed_now n handle note status mark births ds a)

new_of_births : (handle : ℕ) (note : Notes) (status mark : ℕ) (births : List Birth) (ds : List PlainDatum)
    → AllByRecursion (IsRecorded handle births) ds → AllByRecursion (IsOfBirth births) (receipts_for note status mark ds)
new_of_births handle note status mark births [] a = tt
new_of_births handle note status mark births (d ∷ ds) a = ((birth_of d.id handle d.owner d.name d.payload, a.0), new_of_births handle note status mark births ds a.1)

pub filed_of_births : (handle : ℕ) (note : Notes) (status mark : ℕ) (births : List Birth) (fs : List Filed) (ds : List PlainDatum)
    → AllByRecursion (IsOfBirth births) fs → AllByRecursion (IsRecorded handle births) ds →
    AllByRecursion (IsOfBirth births) (fs ++ receipts_for note status mark ds)
filed_of_births handle note status mark births fs ds old a = all_appended (IsOfBirth births) fs (receipts_for note status mark ds) old (new_of_births handle note status mark births ds a)

-- a cleanup record for a set of this number
abbrev pub IsOwnFiled : ℕ → List Birth → Filed → Type 0
IsOwnFiled number births f = (b : Birth) × (slice_get births f.receipt.id ≡ Some b) × (b.handle ≡ number)

new_own : (handle : ℕ) (note : Notes) (status mark : ℕ) (births : List Birth) (ds : List PlainDatum) → AllByRecursion (IsRecorded handle births) ds
    → AllByRecursion (IsOwnFiled handle births) (receipts_for note status mark ds)
new_own handle note status mark births [] a = tt
new_own handle note status mark births (d ∷ ds) a = ((birth_of d.id handle d.owner d.name d.payload, a.0, refl), new_own handle note status mark births ds a.1)

pub still_own : (number : ℕ) (births more : List Birth) (fs : List Filed) → AllByRecursion (IsOwnFiled number births) fs
    → AllByRecursion (IsOwnFiled number (births ++ more)) fs
still_own number births more fs a = all_more (IsOwnFiled number births) (IsOwnFiled number (births ++ more)) (λ f is. (is.0, look_further births more f.receipt.id is.0 is.1, is.2)) fs a

pub filed_own : (handle : ℕ) (note : Notes) (status mark : ℕ) (births : List Birth) (fs : List Filed) (ds : List PlainDatum)
    → AllByRecursion (IsOwnFiled handle births) fs → AllByRecursion (IsRecorded handle births) ds →
    AllByRecursion (IsOwnFiled handle births) (fs ++ receipts_for note status mark ds)
filed_own handle note status mark births fs ds old a = all_appended (IsOwnFiled handle births) fs (receipts_for note status mark ds) old (new_own handle note status mark births ds a)

own_as_cleaned : (n : ℕ) (births : List Birth) (fs : List Filed) → AllByRecursion (IsOwnFiled n births) fs
    → flat_map (own_filed n births) fs ≡ flat_map (cleaned_as births) fs
own_as_cleaned n births [] a = refl
own_as_cleaned n births (f ∷ fs) a =
    let b : Birth = a.0.0 in
    let is : slice_get births f.receipt.id ≡ Some b = a.0.1 in
    let handle : b.handle ≡ n = a.0.2 in
    let own : nat_eq b.handle n ≡ true = grind (arith, nat_tests) in
    let here : own_receipt n (Some b) f.receipt ≡ cleaned_by (Some b) f.receipt = ap (λ (x : Bool). if x then record { birth = birth_without_id b; status = f.receipt.status; note = f.receipt.note } ∷ [] else []) own in
    let head : own_filed n births f ≡ cleaned_as births f = ap (λ (x : Option Birth). own_receipt n x f.receipt) is ∙ here ∙ ap (λ (x : Option Birth). cleaned_by x f.receipt) (sym is) in
    let rest : flat_map (own_filed n births) fs ≡ flat_map (cleaned_as births) fs = own_as_cleaned n births fs a.1 in
    λ i. head i ++ rest i

left_over : (xs ys : List Filed) → drop (length xs) (xs ++ ys) ≡ ys
left_over [] ys = refl
left_over (x ∷ xs) ys = left_over xs ys

-- what a call logged, after what was logged before, for sets of its number
pub cleaned_then : (n : ℕ) (before after : PlainLedger) (added : List Birth) (more : List Filed) → after.births ≡ before.births ++ added
    → after.filed ≡ before.filed ++ more →
    AllByRecursion (IsOfBirth before.births) before.filed → AllByRecursion (IsOwnFiled n after.births) more →
    receipts_on n after ≡ receipts_on n before ++ cleaned_after (length before.filed) after
cleaned_then n before after added more births filed old own =
    let past_end : drop (length before.filed) after.filed ≡ more = ap (drop (length before.filed)) filed ∙ left_over before.filed more in
    let front : flat_map (own_filed n after.births) before.filed ≡ receipts_on n before =
    ap (λ (bs : List Birth). flat_map (own_filed n bs) before.filed) births ∙ receipts_stay n before.births added before.filed old in
    ap (flat_map (own_filed n after.births)) filed
    ∙ flat_map-append (own_filed n after.births) before.filed more
    ∙ (λ i. front i ++ own_as_cleaned n after.births more own i)
    ∙ ap (λ (fs : List Filed). receipts_on n before ++ flat_map (cleaned_as after.births) fs) (sym past_end)

-- the same in the other order
pub turned_recorded : (number : ℕ) (births : List Birth) (ds : List PlainDatum) → AllByRecursion (IsRecorded number births) ds
    → AllByRecursion (IsRecorded number births) (reverse ds)
turned_recorded number births ds a = all_turned (IsRecorded number births) ds a

pub turned_without_ids : (ds : List PlainDatum) → map datum_without_id (reverse ds) ≡ reverse (map datum_without_id ds)
turned_without_ids ds = map_turned datum_without_id ds
