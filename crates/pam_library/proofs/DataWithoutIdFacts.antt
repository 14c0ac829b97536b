-- Module data and the log of sets without their ids.
use Rattle.std.proofs.Common.{◌≡◌, ℕ, ◌+◌, Bool, true, false, nat_eq, if◌then◌else◌, List, [], ◌∷◌, ◌++◌, map, refl, sym, ap, ◌∙◌}
use Rattle.std.proofs.lemmas.Grind.{flat_map-append}
use Rattle.std.proofs.lemmas.List.{map-append}
use Rattle.std.specs.Str.{bytes_eq}
use Rattle.data_cleanup.specs.Datum.{PlainDatum}
use Rattle.data_cleanup.specs.DataList.{PlainDataList, birth_of, datum_of, with_datum, data_named, hold, hold_all}
use Rattle.data_cleanup.specs.declared.datum.Birth.{Birth}
use Rattle.pam_handle.specs.pam_room.specs.Module.{NamedData, births_of, named_data}
use Rattle.pam_library.specs.Alike.{birth_without_id, datum_without_id, data_without_ids, own_birth, births_on}

placed : (ds : List PlainDatum) (d : PlainDatum) → map datum_without_id (with_datum ds d) ≡ with_datum (map datum_without_id ds) (datum_without_id d)
placed [] d = refl
placed (e ∷ ds) d = elim (bytes_eq e.name d.name) as (λ (b : Bool).
    map datum_without_id (if b then d ∷ ds else e ∷ with_datum ds d)
    ≡ (if b then datum_without_id d ∷ map datum_without_id ds else datum_without_id e ∷ with_datum (map datum_without_id ds) (datum_without_id d))) [
      | true ↦ refl
      | false ↦ ap (λ (l : List PlainDatum). datum_without_id e ∷ l) (placed ds d)
    ]

named : (ds : List PlainDatum) (name : List ℕ) → map datum_without_id (data_named ds name) ≡ data_named (map datum_without_id ds) name
named [] name = refl
named (e ∷ ds) name = elim (bytes_eq e.name name) as (λ (b : Bool).
    map datum_without_id (if b then e ∷ [] else data_named ds name) ≡ (if b then datum_without_id e ∷ [] else data_named (map datum_without_id ds) name)) [
      | true ↦ refl
      | false ↦ named ds name
    ]

held : (l : PlainDataList) (b : Birth) → data_without_ids (hold l b) ≡ hold (data_without_ids l) (birth_without_id b)
held l b =
    let live : map datum_without_id (with_datum l.live (datum_of b)) ≡ with_datum (map datum_without_id l.live) (datum_without_id (datum_of b)) = placed l.live (datum_of b) in
    let gone : map datum_without_id (l.gone ++ data_named l.live b.name) ≡ map datum_without_id l.gone ++ data_named (map datum_without_id l.live) b.name =
    map-append datum_without_id l.gone (data_named l.live b.name) ∙ ap (λ (ds : List PlainDatum). map datum_without_id l.gone ++ ds) (named l.live b.name) in
    λ i. record { handle = l.handle; live = live i; gone = gone i }

all_held : (l : PlainDataList) (bs : List Birth) → data_without_ids (hold_all l bs) ≡ hold_all (data_without_ids l) (map birth_without_id bs)
all_held l [] = refl
all_held l (b ∷ bs) = all_held (hold l b) bs ∙ ap (λ (x : PlainDataList). hold_all x (map birth_without_id bs)) (held l b)

-- the sets of some data, without ids
abbrev pub unnumbered : ℕ → ℕ → List NamedData → List Birth
unnumbered handle owner ds = map (λ (d : NamedData). birth_of 0 handle owner d.name d.payload) ds

pub births_without_ids : (id handle owner : ℕ) (ds : List NamedData) → map birth_without_id (births_of id handle owner ds) ≡ unnumbered handle owner ds
births_without_ids id handle owner [] = refl
births_without_ids id handle owner (d ∷ ds) = ap (λ (bs : List Birth). birth_of 0 handle owner d.name d.payload ∷ bs) (births_without_ids (id + 1) handle owner ds)

pub set_without_ids : (l : PlainDataList) (id handle owner : ℕ) (ds : List NamedData)
    → data_without_ids (hold_all l (births_of id handle owner ds)) ≡ hold_all (data_without_ids l) (unnumbered handle owner ds)
set_without_ids l id handle owner ds = all_held l (births_of id handle owner ds) ∙ ap (hold_all (data_without_ids l)) (births_without_ids id handle owner ds)

pub named_without_ids : (ds : List PlainDatum) → named_data (map datum_without_id ds) ≡ named_data ds
named_without_ids [] = refl
named_without_ids (d ∷ ds) = ap (λ (l : List NamedData). record { name = d.name; payload = d.payload } ∷ l) (named_without_ids ds)

-- ---- the sets of a number

own_without_ids : (number : ℕ) (bs : List Birth) → births_on number (map birth_without_id bs) ≡ births_on number bs
own_without_ids number [] = refl
own_without_ids number (b ∷ bs) = ap (λ (l : List Birth). own_birth number b ++ l) (own_without_ids number bs)

pub births_added : (number : ℕ) (before : List Birth) (id handle owner : ℕ) (ds : List NamedData) →
    births_on number (before ++ births_of id handle owner ds) ≡ births_on number before ++ births_on number (unnumbered handle owner ds)
births_added number before id handle owner ds =
    flat_map-append (own_birth number) before (births_of id handle owner ds)
    ∙ ap (λ (l : List Birth). births_on number before ++ l) (sym (own_without_ids number (births_of id handle owner ds)) ∙ ap (births_on number) (births_without_ids id handle owner ds))

pub none_of_another : (number handle owner : ℕ) (ds : List NamedData) → nat_eq handle number ≡ false → births_on number (unnumbered handle owner ds) ≡ []
none_of_another number handle owner [] other = refl
none_of_another number handle owner (d ∷ ds) other =
    ap (λ (b : Bool). (if b then birth_of 0 handle owner d.name d.payload ∷ [] else []) ++ births_on number (unnumbered handle owner ds)) other
    ∙ none_of_another number handle owner ds other
